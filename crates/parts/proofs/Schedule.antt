-- Proof that a file which is fed in parts of any sizes, into rooms of any sizes, gives the text of the whole file.
-- Assumes nothing.
use mathlib.Core.Path.{◌≡◌, refl, ap, sym, ◌∙◌}
use mathlib.Core.Bool.{true, false}
use mathlib.Core.List.{List, [], ◌∷◌, ◌++◌, append_assoc, append-nil}
use Prim.Native.Nat.{ℕ, zero, suc, ◌-◌, ◌≤◌, ◌<◌}
use native.Mathlib.Omega.{arith}
use lib.Dec.{eqb, ltb}
use lib.ListN.{length, drop, length-append, length-drop, take-append-drop}
use lib.Seq.{drop-append-le, drop-drop}
use borrow.Author.Tests.{eqb-true, eqb-false, eq-eqb, ne_eqb, ltb-false, le-ltb, le-leb}
use Rattle.words.specs.Words.{largest}
use Rattle.text.proofs.Numbers.{by_test}
use Rattle.text.specs.Lines.{end_line, cut_line, bad_group_line, group_line}
use Rattle.text.specs.Writing.{line_room}
use Rattle.records.specs.Records.{octets_of, own_in, far_in, circuits_in, refused_start, bad_start}
use Rattle.records.proofs.Items.{never, same_octet}
use Rattle.parts.specs.declared.Running.{Running}
use Rattle.parts.specs.declared.Stage.{Stage}
use Rattle.parts.specs.declared.Stage.TheVariants.{Start, Bad, Runs, Cut}
use Rattle.parts.specs.Whole.{Takes, NoRecord, Partial, AtEnd, Making, Lawful, onward, text_at, lines_within, lines, opened, whole}
use Rattle.parts.specs.Feed.{Part, may_go, share, share_at, stops, behind, run_within, run, begins, fed, is_over, last_line}
use Rattle.parts.specs.Schedule.{text_from, state_after, Move, Reads, Feeds, Standing, before, moved, after, text_in_all, has_next}
use Rattle.parts.proofs.Turns.{by_ahead, takes}
use Rattle.parts.proofs.Runs.{run_stops, run_goes}

-- octets behind the group's record change nothing of it
module _ (s rest : List ℕ) (h : 7 ≤ length s) where
  same_own : own_in (s ++ rest) ≡ own_in s
  same_own = rw (same_octet s rest 1 (omega arith), same_octet s rest 2 (omega arith))

  same_far : far_in (s ++ rest) ≡ far_in s
  same_far = rw (same_octet s rest 3 (omega arith), same_octet s rest 4 (omega arith))

  same_circuits : circuits_in (s ++ rest) ≡ circuits_in s
  same_circuits = rw (same_octet s rest 5 (omega arith), same_octet s rest 6 (omega arith))

  same_refused : refused_start (s ++ rest) ≡ refused_start s
  same_refused = rw (same_own, same_far, same_circuits, same_octet s rest 0 (omega arith))

  same_bad : bad_start (s ++ rest) ≡ refused_start s
  unfolding octets_of
  same_bad = rw (le-ltb (length (s ++ rest)) 7 (rw length-append (omega arith)), same_refused)

module _ {T : Type 0} {w : Making T} (law : Lawful w) where
  -- ---- the lines, one record after another

  enough : (j k : ℕ) (r : Running) (t : T) (s : List ℕ) → length s < j → length s < k → lines_within w j r t s ≡ lines_within w k r t s
  unfolding lines_within text_at
  enough zero k r t s h i = absurd (omega arith)
  enough (suc j) zero r t s h i = absurd (omega arith)
  enough (suc j) (suc k) r t s h i =
      by_ahead (w.ahead r t s)
      (λ n x t' q.
      let f = law.fits r t s n x t' q in
      rw (q, enough j k (onward r) t' (drop n s) (rw length-drop (omega arith)) (rw length-drop (omega arith))))
      (λ q. rw q) (λ q. rw q) (λ q. rw q)

  module _ (r : Running) (t : T) (s : List ℕ) where
    lines_end : w.ahead r t s ≡ AtEnd → lines w r t s ≡ end_line (r.next - 1)
    unfolding lines lines_within text_at
    lines_end q = rw q

    lines_none : w.ahead r t s ≡ NoRecord → lines w r t s ≡ cut_line r.next
    unfolding lines lines_within text_at
    lines_none q = rw q

    lines_partial : w.ahead r t s ≡ Partial → lines w r t s ≡ cut_line r.next
    unfolding lines lines_within text_at
    lines_partial q = rw q

    lines_takes : (n : ℕ) (x : List ℕ) (t' : T) → w.ahead r t s ≡ Takes n x t' → lines w r t s ≡ x ++ lines w (onward r) t' (drop n s)
    unfolding lines lines_within text_at
    lines_takes n x t' q =
        let f = law.fits r t s n x t' q in
        rw (q, enough (length s) (suc (length (drop n s))) (onward r) t' (drop n s) (rw length-drop (omega arith)) (omega arith))

  -- ---- a part and the rest

  -- what a part gives, and then what is left of it with the rest, is what the whole gives
  abbrev Splits : Stage → T → List ℕ → List ℕ → Part T → T → Type 0
  Splits stage t s rest p t' = text_from w stage t (s ++ rest) ≡ p.text ++ text_from w p.stage t' (drop p.taken s ++ rest)

  stops_split : (r : Running) (t : T) (s rest : List ℕ) → Splits (Runs r) t s rest (stops w r t s) t
  unfolding text_from stops
  stops_split r t s rest =
      by_ahead (w.ahead r t s) (λ n x t' q. rw q) (λ q. rw q (lines_none r t (s ++ rest) (law.stays r t s rest (rw q) ∙ q))) (λ q. rw q) (λ q. rw q)

  takes_split : (r : Running) (t : T) (s rest : List ℕ) (n : ℕ) (x : List ℕ) (t' : T) (p : Part T) → w.ahead r t s ≡ Takes n x t'
      → Splits (Runs (onward r)) t' (drop n s) rest p p.state
      → Splits (Runs r) t s rest (behind n x p) p.state
  unfolding text_from
  takes_split r t s rest n x t' p q more =
      lines_takes r t (s ++ rest) n x t' (law.stays r t s rest (rw q) ∙ q)
      ∙ ap (λ (l : List ℕ). x ++ lines w (onward r) t' l) (drop-append-le n s rest (law.fits r t s n x t' q).1)
      ∙ ap (λ (l : List ℕ). x ++ l) more
      ∙ rw (append_assoc, drop-drop)

  run_splits : (k : ℕ) (r : Running) (t : T) (s rest : List ℕ) (n : ℕ) → Splits (Runs r) t s rest (run_within w k r t s n) (run_within w k r t s n).state
  unfolding run_within stops
  run_splits zero r t s rest n = stops_split r t s rest
  run_splits (suc k) r t s rest n =
      by_test (eqb (share w r t s n).taken 0)
      (λ z. rw z (stops_split r t s rest))
      (λ z. takes (w.ahead r t s) r t n (eqb-false _ _ z) (λ m x t' q h.
      rw (z, h) (takes_split r t s rest m x t' (run_within w k (onward r) t' (drop m s) (n - length x)) q (run_splits k (onward r) t' (drop m s) rest (n - length x)))))

  module _ (s rest : List ℕ) (h : 7 ≤ length s) where
    refused_text : refused_start s ≡ true → whole w (s ++ rest) ≡ bad_group_line
    unfolding whole
    refused_text e = rw (same_bad s rest h, e)

    opened_text : refused_start s ≡ false
        → whole w (s ++ rest) ≡ group_line (own_in s) (far_in s) (circuits_in s) ++ lines w (opened s) (w.fresh (circuits_in s)) (drop (octets_of 0) s ++ rest)
    unfolding whole octets_of
    opened_text e = rw (same_bad s rest h, e, same_own s rest h, same_far s rest h, same_circuits s rest h, drop-append-le 7 s rest h)

  begin_splits : (t : T) (s rest : List ℕ) (n : ℕ) → Splits Start t s rest (begins t s n) (state_after w Start (begins t s n))
  unfolding begins text_from state_after octets_of
  begin_splits t s rest n =
      by_test (ltb (length s) 7)
      (λ e. rw e)
      (λ e. let h : 7 ≤ length s = ltb-false _ _ e in
      by_test (refused_start s)
      (λ f. rw (e, f) (refused_text s rest h f))
      (λ f. by_test (ltb n line_room) (λ g. rw (e, f, g)) (λ g. rw (e, f, g) (opened_text s rest h f))))

  splits : (stage : Stage) (t : T) (s rest : List ℕ) (n : ℕ) → Splits stage t s rest (fed w stage t s n) (state_after w stage (fed w stage t s n))
  unfolding fed text_from state_after run
  splits Start t s rest n = begin_splits t s rest n
  splits Bad t s rest n = refl
  splits (Runs r) t s rest n = run_splits (suc (length s)) r t s rest n
  splits (Cut next) t s rest n = refl

  move_keeps : (z : Standing T) (m : Move) → text_in_all w (moved w z m) ≡ text_in_all w z
  unfolding text_in_all moved
  move_keeps z (Reads n) = rw (append_assoc, take-append-drop)
  move_keeps z (Feeds room) = rw (append_assoc, ← splits z.stage z.state z.read z.unread room)

  keeps : (ms : List Move) (z : Standing T) → text_in_all w (after w z ms) ≡ text_in_all w z
  unfolding after
  keeps [] z = refl
  keeps (m ∷ ms) z = keeps ms (moved w z m) ∙ move_keeps z m

  -- whatever the parts and the rooms: the text of the whole file
  pub in_parts : (t : T) (file : List ℕ) (ms : List Move) → text_in_all w (after w (before t file) ms) ≡ whole w file
  unfolding text_in_all text_from
  in_parts t file ms = keeps ms (before t file)

  -- ---- the last line

  module _ (r : Running) (t : T) (s : List ℕ) (n : ℕ) (room : line_room ≤ n) (more : ltb r.next largest ≡ true) where
    goes : may_go r n ≡ true
    goes = rw (le-leb line_room n room, more)

    not_taken : (k : ℕ) (x : List ℕ) (t' : T) → w.ahead r t s ≡ Takes k x t' → (share w r t s n).taken ≡ 0 → ⊥
    unfolding share_at
    not_taken k x t' q z = let e : k ≡ 0 = rw (goes, q) at z in omega (arith, (law.fits r t s k x t' q).0)

    stop_last : (share w r t s n).taken ≡ 0 → last_line (stops w r t s).stage s ≡ lines w r t s
    unfolding stops last_line
    stop_last z =
        by_ahead (w.ahead r t s)
        (λ k x t' q. absurd (not_taken k x t' q z))
        (λ q. rw q (sym (lines_none r t s q)))
        (λ q. rw (q, ne_eqb (length s) 0 (λ y. let e : Partial ≡ AtEnd = sym q ∙ law.ends r t s y in never cc)) (sym (lines_partial r t s q)))
        (λ q. rw (q, eq-eqb (length s) 0 (law.ended r t s q)) (sym (lines_end r t s q)))

    run_last : (run w r t s n).taken ≡ 0 → last_line (run w r t s n).stage s ≡ lines w r t s
    run_last z =
        by_test (eqb (share w r t s n).taken 0)
        (λ e. let y : (share w r t s n).taken ≡ 0 = eqb-true _ _ e in rw (run_stops law r t s n y) (stop_last y))
        (λ e. absurd (let y = eqb-false _ _ e in let x = rw (run_goes law r t s n y) at z in y (omega arith)))

  begin_last : (t : T) (s : List ℕ) (n : ℕ) → line_room ≤ n → (begins t s n).taken ≡ 0 → last_line (begins t s n).stage s ≡ whole w s
  unfolding begins whole last_line octets_of
  begin_last t s n room =
      by_test (ltb (length s) 7)
      (λ e. rw e (λ z. refl))
      (λ e. by_test (refused_start s) (λ f. rw (e, f) (λ z. refl)) (λ f. rw (e, f, le-ltb n line_room room) (λ z. absurd (omega arith))))

  -- where nothing of what was read could be taken, with room for a line, the last line is all that is still to come
  last_is : (stage : Stage) (t : T) (s : List ℕ) (n : ℕ) → line_room ≤ n → has_next stage ≡ true → (fed w stage t s n).taken ≡ 0
      → last_line (fed w stage t s n).stage s ≡ text_from w stage t s
  unfolding fed text_from last_line
  last_is Start t s n room more z = begin_last t s n room z
  last_is Bad t s n room more z = refl
  last_is (Runs r) t s n room more z = run_last r t s n room more z
  last_is (Cut next) t s n room more z = refl

  -- so a file that was read to its end has been printed whole
  pub finished : (t : T) (file : List ℕ) (ms : List Move) (n : ℕ) → line_room ≤ n → (z : Standing T) → z ≡ after w (before t file) ms
      → z.unread ≡ [] → has_next z.stage ≡ true → (fed w z.stage z.state z.read n).taken ≡ 0
      → z.printed ++ last_line (fed w z.stage z.state z.read n).stage z.read ≡ whole w file
  unfolding text_in_all
  finished t file ms n room z e u more none =
      rw (last_is z.stage z.state z.read n room more none)
      (ap (λ (l : List ℕ). z.printed ++ text_from w z.stage z.state l) (sym (append-nil z.read) ∙ ap (λ (l : List ℕ). z.read ++ l) (sym u))
      ∙ ap (text_in_all w) e ∙ in_parts t file ms)

  over_last : (stage : Stage) (t : T) (s l : List ℕ) → is_over stage ≡ true → last_line stage s ≡ text_from w stage t l
  unfolding last_line text_from
  over_last Start t s l o = never cc
  over_last Bad t s l o = refl
  over_last (Runs r) t s l o = never cc
  over_last (Cut next) t s l o = refl

  -- and one that is cut or has no group needs no more reading
  pub over_early : (t : T) (file : List ℕ) (ms : List Move) (z : Standing T) → z ≡ after w (before t file) ms → is_over z.stage ≡ true
      → z.printed ++ last_line z.stage z.read ≡ whole w file
  unfolding text_in_all
  over_early t file ms z e o = ap (λ (l : List ℕ). z.printed ++ l) (over_last z.stage z.state z.read (z.read ++ z.unread) o) ∙ ap (text_in_all w) e ∙ in_parts t file ms
