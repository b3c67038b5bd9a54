-- Two ends that stand in a room of a closed list stay in it, whatever happens: the rules of `Rooms` hold of queues of any length.
-- Assumes nothing.
use mathlib.Core.Bool.{Bool, true, false, cond, not, ◌&&◌, ◌||◌, and-false}
use mathlib.Core.List.{List, [], ◌∷◌, ◌++◌}
use mathlib.Core.Path.{◌≡◌, refl}
use Prim.Native.Nat.{ℕ, zero, suc}
use lib.Dec.{T, eqb, eqb→eq, eqb_refl}
use lib.ListN.{get_or}
use Rattle.circuit.proofs.Every.{left, right, both, is_true}
use Rattle.ends.specs.Calm.{still, Leave.at_once, Leave.once_calm}
use Rattle.ends.proofs.Words.{words, fail, blo, mute, push, kept, blo_in, quiet, next, Run, Run.ran, run, Calm, Calm.stirred, Half, Half.half, run_of, rest_of, blo_for, calm_of, view, same_half, same_half_lem, join_all, joined, all_in, member, at_member, has, family, absorbs, run_absorbs, run_push, end_of, reach, outgoing, run_ends}
use Rattle.ends.proofs.Moves.{Move, Move.to, Table, among, same_move, same_move_lem, cause_of}
use Rattle.ends.proofs.Rooms.{Room, Rooms, Need, Need.room, Need.impossible, over, stirs, comes, goes, glides, calmly, takes_rest, takes, emptied, by_words, by_host, by_calm, by_lull, follows, sound, same_room, place, listed, in_role, meets, meets_from, closed_at, closed}

-- a list of rooms has what a list of needs asks for
abbrev pub Meets : Rooms → Bool → List Need → Type 0
Meets l c n = T (all_in (meets l c) n)

-- the two ends stand in a room of the list: the one where something happens, of role c, and the other; k, j: they are calm
abbrev pub Inside : Rooms → (c k : Bool) → ℕ → List ℕ → (j : Bool) → ℕ → List ℕ → Type 0
Inside l c k s w j t v = T (listed l (in_role c (view c k s w) (view (not c) j t v)))

-- after a move
abbrev pub Lands : Rooms → (c k : Bool) → List ℕ → (j : Bool) → ℕ → List ℕ → Move → Type 0
Lands l c k w j t v (to n o) = Inside l c k n w j t (v ++ o)

-- needs of a part

meets_left : (l : Rooms) (c : Bool) (a d : List Need) → Meets l c (a ++ d) → Meets l c a
meets_left l c [] d h = tt
meets_left l c (x ∷ a) d h = both (meets l c x) _ (left (meets l c x) _ h) (meets_left l c a d (right (meets l c x) _ h))

meets_right : (l : Rooms) (c : Bool) (a d : List Need) → Meets l c (a ++ d) → Meets l c d
meets_right l c [] d h = h
meets_right l c (x ∷ a) d h = meets_right l c a d (right (meets l c x) _ h)

-- needs over a list, at one of its members
meets_at : (l : Rooms) (c : Bool) {A : Type 0} (same : A → A → Bool) → ((a b : A) → T (same a b) → a ≡ b) → (f : A → List Need) (a : A) (k : List A)
    → T (member same a k) → Meets l c (over f k) → Meets l c (f a)
meets_at l c same really f a [] h t = absurd h
meets_at l c same really f a (x ∷ k) h t = by (same a x) (really a x) h (λ g. meets_at l c same really f a k g (meets_right l c (f x) (over f k) t))
  where
    by : (q : Bool) → (T q → a ≡ x) → T (q || member same a k) → (T (member same a k) → Meets l c (f a)) → Meets l c (f a)
    by true e g rest = rw (e tt) (meets_left l c (f x) (over f k) t)
    by false e g rest = rest g

module _ (l : Rooms) (c : Bool) where
  at_move : (f : Move → List Need) (mv : Move) (k : List Move) → T (among mv k) → Meets l c (over f k) → Meets l c (f mv)
  at_move = meets_at l c same_move same_move_lem

  at_word : (f : ℕ → List Need) (x : ℕ) → T (has x words) → Meets l c (over f words) → Meets l c (f x)
  at_word f x = meets_at l c eqb eqb→eq f x words

  -- the first need
  front : (me you : Half) (rest : Bool) → T (listed l (in_role c me you) && rest) → T (listed l (in_role c me you))
  front me you rest h = left (listed l (in_role c me you)) rest h

  -- a choice: what either side needs
  either : (q : Bool) (a d : List Need) {R : Type 0} → (T q → Meets l c a → R) → (Meets l c d → R) → Meets l c (cond q a d) → R
  either true a d f g h = f tt h
  either false a d f g h = g h

-- sending ends the calm, in the halves as at the ends
stirs_calm : (c k : Bool) (w o : List ℕ) → stirs o (calm_of c k w) ≡ calm_of c (still o k) w
stirs_calm c k w [] = refl
stirs_calm c k w (x ∷ o) = refl

still_stirred : (o : List ℕ) → still o false ≡ false
still_stirred [] = refl
still_stirred (x ∷ o) = refl

-- what the needs of a move say of the queues w, of the end that moves, and v, of the other
module _ (l : Rooms) (c : Bool) (w : List ℕ) (j : Bool) (t : ℕ) (v : List ℕ) where
  abbrev y : Half
  y = view (not c) j t v

  abbrev At : ℕ → Run → Bool → Calm → List ℕ → Type 0
  At n q d k o = T (listed l (in_role c (half n q d k) (join_all (not c) y o)))

  -- the other end's half is the view of its longer queue
  arrived : (k : Bool) (n : ℕ) (o : List ℕ) → At n (run_of c n w) (blo_for n w) (calm_of c k w) o → Inside l c k n w j t (v ++ o)
  arrived k n o h = rw (joined (not c) j t v o) at h

  came : (n : ℕ) (q : Run) (k : Calm) (o : List ℕ) → Meets l c (comes c y n q k o) → (d : Bool) → At n q (d && eqb n 1) k o
  came n q k o h false = front l c (half n q false k) (join_all (not c) y o) _ h
  came n q k o h true = by (eqb n 1) h
    where
      Z : Half
      Z = join_all (not c) y o

      by : (e : Bool) → Meets l c (room (half n q false k) Z ∷ cond e (room (half n q true k) Z ∷ []) []) → At n q e k o
      by true h = front l c (half n q true k) Z true (right (meets l c (room (half n q false k) Z)) _ h)
      by false h = front l c (half n q false k) Z true h

  comes_with : (k : Bool) (n : ℕ) (o : List ℕ) → Meets l c (comes c y n (run_of c n w) (calm_of c k w) o) → Inside l c k n w j t (v ++ o)
  comes_with k n o h = arrived k n o (came n (run_of c n w) (calm_of c k w) o h (blo_in w))

  -- b tells of a BLO in the queue, unless that is the mute word that has just left it
  went : (k : Bool) (s : ℕ) (b sure : Bool) → (T sure → b ≡ blo_for s w) → (T (not (eqb s 1)) → b ≡ blo_for s w) → (n : ℕ) (o : List ℕ)
      → Meets l c (goes c y s (run_of c s w) b sure (calm_of c k w) (to n o)) → Inside l c (still o k) n w j t (v ++ o)
  went k s b sure known other n o =
      either l c (eqb n s && (sure || not (eqb n 1))) _ _ (λ p h.
      same (eqb→eq n s (left (eqb n s) _ p)) (right (eqb n s) _ p) (front l c (half s (run_of c s w) b (stirs o (calm_of c k w))) (join_all (not c) y o) _ h))
      (either l c (has s (family s) && absorbs c n (family s)) _ _ (λ p h. comes_with (still o k) n o (rw (← (behind p), stirs_calm c k w o) at h)) (λ h. absurd h))
    where
      bit : (g e : Bool) → (T g → b ≡ blo_for s w) → (T (not e) → b ≡ blo_for s w) → T (g || not e) → b ≡ blo_for s w
      bit true e f g p = f tt
      bit false e f g p = g p

      same : n ≡ s → T (sure || not (eqb n 1)) → At s (run_of c s w) b (stirs o (calm_of c k w)) o → Inside l c (still o k) n w j t (v ++ o)
      same e p h = rw e (arrived (still o k) s o (rw (bit sure (eqb s 1) known other (rw e at p), stirs_calm c k w o) at h))

      behind : T (has s (family s) && absorbs c n (family s)) → run_of c n w ≡ run c n (rest_of (run_of c s w))
      behind p = run_absorbs c n (family s) (right (has s (family s)) _ p) s (left (has s (family s)) _ p) (kept w)

  glided : (s x : ℕ) (b : Bool) → b ≡ blo_for s w → (n : ℕ) (o : List ℕ) → Meets l c (glides c y s (run_of c (next s x) w) b x (to n o))
      → Inside l c false n w j t (v ++ o)
  glided s x b known n o =
      either l c (eqb n (next s x)) _ _ (λ p. let e : n ≡ next s x = eqb→eq n (next s x) p in
      either l c (eqb n s) _ _ (λ q h. same e (eqb→eq n s q) (front l c (half s (run_of c (next s x) w) b stirred) (join_all (not c) y o) _ h))
      (either l c (has n outgoing) _ _ (λ q h. comes_with false n o (rw (← e) at (reached e q h))) (λ h. absurd h))) (λ h. absurd h)
    where
      same : n ≡ next s x → n ≡ s → At s (run_of c (next s x) w) b stirred o → Inside l c false n w j t (v ++ o)
      same e d h = rw d (arrived false s o (rw (← e, d, known) at h))

      reached_if : (q : Bool) (k : List Need) → T q → Meets l c (cond q k []) → Meets l c k
      reached_if true k q h = h
      reached_if false k q h = absurd q

      R : Run
      R = run_of c (next s x) w

      reached : n ≡ next s x → T (has n outgoing) → Meets l c (cond (has (end_of R) (reach n)) (comes c y n R stirred o) []) → Meets l c (comes c y n R stirred o)
      reached e q h = reached_if (has (end_of R) (reach n)) _ (rw e (run_ends c (next s x) (rw e at q) (kept w))) h

  -- the rest is u with the word x in front; a failure in front of another was not kept
  took : (s x n : ℕ) (o u : List ℕ) → Meets l c (takes_rest c y s (ran s (push x u)) x (to n o)) → Meets l c (comes c y n (run c n u) stirred o)
  took s x n o [] h = meets_left l c (comes c y n (run c n []) stirred o) _ (rw (is_true (eqb s s) (eqb_refl s), is_true (eqb x x) (eqb_refl x)) at h)
  took s x n o (a ∷ u) h = by (eqb x fail && eqb a fail) (λ e. eqb→eq x fail (left (eqb x fail) _ e)) (λ e. eqb→eq a fail (right (eqb x fail) _ e)) h
    where
      by : (q : Bool) → (T q → x ≡ fail) → (T q → a ≡ fail) → Meets l c (takes_rest c y s (ran s (cond q (a ∷ u) (x ∷ a ∷ u))) x (to n o))
          → Meets l c (comes c y n (run c n (a ∷ u)) stirred o)
      by false d e h = meets_left l c (comes c y n (run c n (a ∷ u)) stirred o) _ (rw (is_true (eqb s s) (eqb_refl s), is_true (eqb x x) (eqb_refl x)) at h)
      by true d e h = rw (e tt) (meets_right l c (comes c y n (run c n u) stirred o) _ (rw (d tt, e tt, is_true (eqb s s) (eqb_refl s)) at h))

  -- being calm, it said its signal again or restarted
  calmed : (s n : ℕ) (o : List ℕ) → Meets l c (calmly c y s (run_of c s w) (blo_for s w) (run_of c 12 w) (to n o)) → Inside l c (still o true) n w j t (v ++ o)
  calmed s n o =
      either l c (eqb n s) _ _ (λ p h. same (eqb→eq n s p) (front l c (half s (run_of c s w) (blo_for s w) (stirs o (calm_of c true w))) (join_all (not c) y o) _ h))
      (either l c (eqb n 12) _ _ (λ p h. again (eqb→eq n 12 p) (front l c (half 12 (run_of c 12 w) false (stirs o (calm_of c true w))) (join_all (not c) y o) _ h)) (λ h. absurd h))
    where
      same : n ≡ s → At s (run_of c s w) (blo_for s w) (stirs o (calm_of c true w)) o → Inside l c (still o true) n w j t (v ++ o)
      same e h = rw e (arrived (still o true) s o (rw (stirs_calm c true w o) at h))

      again : n ≡ 12 → At 12 (run_of c 12 w) false (stirs o (calm_of c true w)) o → Inside l c (still o true) n w j t (v ++ o)
      again e h = rw e (arrived (still o true) 12 o (rw (stirs_calm c true w o, ← (and-false (blo_in w))) at h))

  -- the word at the head of the queue
  module _ (s x n : ℕ) (o : List ℕ) where
    abbrev mv : Move
    mv = to n o

    abbrev B : Bool
    B = blo_for s (x ∷ w)

    abbrev After : Type 0
    After = Inside l c false n w j t (v ++ o)

    -- its needs, where m tells whether it is mute and q whether it is quiet
    abbrev Taking : (m q : Bool) → Run → Type 0
    Taking m q r = Meets l c (cond m (goes c y s r B (not (eqb x blo)) stirred mv) (cond q (glides c y s r B x mv) (takes_rest c y s r x mv)))

    no_blo : (e : Bool) → T (not e) → ((e || blo_in w) && eqb s 1) ≡ blo_for s w
    no_blo true h = absurd h
    no_blo false h = refl

    elsewhere : (a d e : Bool) → T (not e) → (a && e) ≡ (d && e)
    elsewhere a d true h = absurd h
    elsewhere true true false h = refl
    elsewhere true false false h = refl
    elsewhere false true false h = refl
    elsewhere false false false h = refl

    taken_quiet : (q : Bool) → T (not (eqb x blo)) → Taking false q (cond q (run_of c (next s x) w) (ran s (push x (kept w)))) → After
    taken_quiet true i h = glided s x B (no_blo (eqb x blo) i) n o h
    taken_quiet false i h = comes_with false n o (took s x n o (kept w) h)

    taken_mute : (m : Bool) → (T (not m) → T (not (eqb x blo))) → Taking m (quiet c s x) (run c s (cond m (kept w) (push x (kept w)))) → After
    taken_mute true i h = rw (still_stirred o) at (went false s B (not (eqb x blo)) (no_blo (eqb x blo)) (elsewhere (blo_in (x ∷ w)) (blo_in w) (eqb s 1)) n o h)
    taken_mute false i h = taken_quiet (quiet c s x) (i tt) (rw (run_push c s x (kept w)) at h)

    taken : Meets l c (takes c y s (run_of c s (x ∷ w)) B x mv) → After
    taken = taken_mute (mute x) (not_mute (eqb x blo) (eqb→eq x blo))
      where
        not_mute : (e : Bool) → (T e → x ≡ blo) → T (not (mute x)) → T (not e)
        not_mute true e h = rw (e tt) at h
        not_mute false e h = tt

-- a room in the list

same_room_lem : (r q : Room) → T (same_room r q) → r ≡ q
same_room_lem r q h =
    let a : r.0 ≡ q.0 = same_half_lem r.0 q.0 (left (same_half r.0 q.0) _ h) in
    let b : r.1 ≡ q.1 = same_half_lem r.1 q.1 (right (same_half r.0 q.0) _ h) in
    λ i. (a i, b i)

at_place : (f : Room → Bool) (l : Rooms) (n : ℕ) → T (all_in (all_in f) l) → T (all_in f (get_or l n []))
at_place f [] n t = tt
at_place f (q ∷ l) zero t = left (all_in f q) _ t
at_place f (q ∷ l) (suc n) t = at_place f l n (right (all_in f q) _ t)

at_listed : (f : Room → Bool) (l : Rooms) (r : Room) → T (listed l r) → T (all_in (all_in f) l) → T (f r)
at_listed f l r h t = at_member same_room same_room_lem f (get_or l (place r.0) []) r h (at_place f l (place r.0) t)

-- a listed room that is looked at first adds nothing to the list
in_front : (l : Rooms) (r : Room) → T (listed l r) → (c : Bool) (n : List Need) → T (all_in (meets_from l r c) n) → Meets l c n
in_front l r h c [] t = tt
in_front l r h c (impossible ∷ n) t = absurd t
in_front l r h c (room me you ∷ n) t =
    both (listed l q) _ (by (same_room q r) (same_room_lem q r) (left (same_room q r || listed l q) _ t)) (in_front l r h c n (right (same_room q r || listed l q) _ t))
  where
    q : Room
    q = in_role c me you

    by : (k : Bool) → (T k → q ≡ r) → T (k || listed l q) → T (listed l q)
    by true e g = rw (e tt) h
    by false e g = g

emptied_view : (c j : Bool) (t : ℕ) (v : List ℕ) → emptied (view c j t v) ≡ view c j t []
emptied_view c true t v = refl
emptied_view c false t v = refl

-- two ends that stand in a room of a closed list
module _ (m : Table) (l : Rooms) (shut : T (closed m l)) where
  at_room : (r : Room) → T (listed l r) → T (closed_at m l r)
  at_room r h = at_listed (closed_at m l) l r h shut

  pub sound_here : (r : Room) → T (listed l r) → T (sound r)
  unfolding closed_at
  sound_here r h = left (sound r) _ (at_room r h)

  needs_met : (c : Bool) (me you : Half) → T (listed l (in_role c me you)) → Meets l c (follows m c me you)
  unfolding closed_at
  needs_met true me you h = in_front l (me, you) h true (follows m true me you)
      (left (all_in (meets_from l (me, you) true) (follows m true me you)) _ (right (sound (me, you)) _ (at_room (me, you) h)))
  needs_met false me you h = in_front l (you, me) h false (follows m false me you)
      (right (all_in (meets_from l (you, me) true) (follows m true you me)) _ (right (sound (you, me)) _ (at_room (you, me) h)))

  module _ (c k : Bool) (s : ℕ) (w : List ℕ) (j : Bool) (t : ℕ) (v : List ℕ) (here : Inside l c k s w j t v) where
    abbrev b : Bool
    b = blo_for s w

    abbrev r : Run
    r = run_of c s w

    abbrev z : Calm
    z = calm_of c k w

    abbrev o : Half
    o = view (not c) j t v

    words_met : Meets l c (by_words m c o s r b)
    unfolding follows
    words_met = meets_left l c (by_words m c o s r b) _ (needs_met c (view c k s w) o here)

    others_met : Meets l c (by_host m c o s r b z ++ (by_calm m c o s r b z ++ by_lull m c o s r b z))
    unfolding follows
    others_met = meets_right l c (by_words m c o s r b) _ (needs_met c (view c k s w) o here)

    calm_met : Meets l c (by_calm m c o s r b z ++ by_lull m c o s r b z)
    calm_met = meets_right l c (by_host m c o s r b z) _ others_met

    -- what the host gives at once
    pub by_host_lem : (n : ℕ) (u : List ℕ) → T (among (to n u) (m c s (cause_of at_once))) → Lands l c (still u k) w j t v (to n u)
    by_host_lem n u i = went l c w j t v k s b true (λ z. refl) (λ z. refl) n u
        (at_move l c (goes c o s r b true z) (to n u) (m c s (cause_of at_once)) i (meets_left l c (by_host m c o s r b z) _ others_met))

  -- what it gives once the end is calm
  pub by_calm_lem : (c : Bool) (s : ℕ) (w : List ℕ) (j : Bool) (t : ℕ) (v : List ℕ) → Inside l c true s w j t v → (n : ℕ) (u : List ℕ)
      → T (among (to n u) (m c s (cause_of once_calm))) → Lands l c (still u true) w j t v (to n u)
  by_calm_lem c s w j t v here n u i = calmed l c w j t v s n u
      (at_move l c (calmly c Y s (run_of c s w) (blo_for s w) (run_of c 12 w)) (to n u) (m c s (cause_of once_calm)) i
      (meets_left l c (by_calm m c Y s (run_of c s w) (blo_for s w) (calm_of c true w)) _ (calm_met c true s w j t v here)))
    where
      Y : Half
      Y = view (not c) j t v

  -- nothing is on its way, and the end notes it
  pub by_lull_lem : (c k : Bool) (s : ℕ) (j : Bool) (t : ℕ) → Inside l c k s [] j t [] → Inside l c true s [] j t []
  by_lull_lem c k s j t here = rw (emptied_view (not c) j t []) at (front l c (view c true s []) (emptied Y) true silent)
    where
      Y : Half
      Y = view (not c) j t []

      noted : Meets l c (by_lull m c Y s (ran s []) false (calm_of c k []))
      noted = meets_right l c (by_calm m c Y s (ran s []) false (calm_of c k [])) _ (calm_met c k s [] j t [] here)

      silent : Meets l c (room (view c true s []) (emptied Y) ∷ [])
      silent = rw (is_true (eqb s s) (eqb_refl s), is_true (eqb t t) (eqb_refl t)) at noted

  -- a word that arrives, which the other end has sent
  pub by_word : (c k : Bool) (s x : ℕ) (w : List ℕ) (t : ℕ) (v : List ℕ) → Inside l c k s (x ∷ w) false t v → T (has x words) → (n : ℕ) (u : List ℕ)
      → T (among (to n u) (m c s x)) → Lands l c false w false t v (to n u)
  by_word c k s x w t v here i n u a = taken l c w false t v s x n u
      (at_move l c (taking x) (to n u) (m c s x) a (at_word l c (λ z. over (taking z) (m c s z)) x i (words_met c k s (x ∷ w) false t v here)))
    where
      taking : ℕ → Move → List Need
      taking = takes c (view (not c) false t v) s (run_of c s (x ∷ w)) (blo_for s (x ∷ w))
