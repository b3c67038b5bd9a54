-- What the proof sees of a queue: the words of its signals, without their particulars. An end takes some words quietly; a run is the state
-- after those at the head of the queue, and the words that stand behind them. Of an end that is calm, and may therefore restart and lose nothing,
-- it also sees the run as it would then be.
-- Assumes nothing.
use mathlib.Core.Bool.{Bool, true, false, cond, not, ◌&&◌, ◌||◌, or-false}
use mathlib.Core.List.{List, [], ◌∷◌, ◌++◌, append_assoc, append-nil}
use mathlib.Core.Path.{◌≡◌, refl, ap, sym, ◌∙◌}
use Prim.Native.Nat.{ℕ, suc}
use lib.Dec.{T, eqb, leb, eqb→eq}
use Rattle.circuit.specs.declared.Signal.{Signal}
use Rattle.circuit.specs.declared.Signal.TheVariants.{Iam, Acm, Anc, Ann, Cbk, Clf, Ran, Rlg, Blo, Bla, Ubl, Uba, Rsc, Fail}
use Rattle.circuit.proofs.Every.{left, right, is_true, each_bool, at_bool}

-- The words. ANC and ANN are one, and so are the failures. The four that change no call come last, and state s of an outgoing call goes on by
-- word s: 1 by ACM, 2 by an answer, 3 by CBK, 4 by RAN.
abbrev pub iam : ℕ
iam = 0

abbrev pub fail : ℕ
fail = 5

abbrev pub clf : ℕ
clf = 6

abbrev pub rlg : ℕ
rlg = 7

abbrev pub rsc : ℕ
rsc = 8

abbrev pub blo : ℕ
blo = 9

abbrev pub ubl : ℕ
ubl = 10

abbrev pub word : Signal → ℕ
word Iam = iam
word (Acm octet) = 1
word Anc = 2
word Ann = 2
word Cbk = 3
word Ran = 4
word (Fail f) = fail
word Clf = clf
word Rlg = rlg
word Rsc = rsc
word Blo = blo
word Ubl = ubl
word Bla = 11
word Uba = 12

abbrev pub words : List ℕ
words = 0 ∷ 1 ∷ 2 ∷ 3 ∷ 4 ∷ 5 ∷ 6 ∷ 7 ∷ 8 ∷ 9 ∷ 10 ∷ 11 ∷ 12 ∷ []

abbrev pub heard : List Signal → List ℕ
heard [] = []
heard (x ∷ w) = word x ∷ heard w

pub heard_more : (w o : List Signal) → heard (w ++ o) ≡ heard w ++ heard o
heard_more [] o = refl
heard_more (x ∷ w) o = ap (λ (u : List ℕ). word x ∷ u) (heard_more w o)

-- tests over lists

abbrev pub all_in : {A : Type 0} → (A → Bool) → List A → Bool
all_in f [] = true
all_in f (x ∷ l) = f x && all_in f l

-- a test of equality, and membership by it; what a `let` binds is computed only where it is read, so the search stops at the first hit
abbrev pub member : {A : Type 0} → (A → A → Bool) → A → List A → Bool
member same a [] = false
member same a (x ∷ l) = let rest = member same a l in same a x || rest

pub at_member : {A : Type 0} (same : A → A → Bool) → ((a b : A) → T (same a b) → a ≡ b)
    → (f : A → Bool) (l : List A) (a : A) → T (member same a l) → T (all_in f l) → T (f a)
at_member same really f [] a h t = absurd h
at_member same really f (x ∷ l) a h t = by (same a x) (really a x) h (λ g. at_member same really f l a g (right (f x) (all_in f l) t))
  where
    by : (b : Bool) → (T b → a ≡ x) → T (b || member same a l) → (T (member same a l) → T (f a)) → T (f a)
    by true e g k = rw (e tt) (left (f x) (all_in f l) t)
    by false e g k = k g

abbrev pub has : ℕ → List ℕ → Bool
has x l = member eqb x l

pub at_has : (f : ℕ → Bool) (l : List ℕ) (x : ℕ) → T (has x l) → T (all_in f l) → T (f x)
at_has = at_member eqb eqb→eq

abbrev pub same_list : List ℕ → List ℕ → Bool
same_list [] [] = true
same_list [] (y ∷ v) = false
same_list (x ∷ u) [] = false
same_list (x ∷ u) (y ∷ v) = eqb x y && same_list u v

pub same_list_lem : (u v : List ℕ) → T (same_list u v) → u ≡ v
same_list_lem [] [] t = refl
same_list_lem [] (y ∷ v) t = absurd t
same_list_lem (x ∷ u) [] t = absurd t
same_list_lem (x ∷ u) (y ∷ v) t =
    let e : x ≡ y = eqb→eq x y (left (eqb x y) (same_list u v) t) in
    let d : u ≡ v = same_list_lem u v (right (eqb x y) (same_list u v) t) in
    cc

-- The block signals and their answers may stand anywhere between the others: they are left out of a run.
abbrev pub mute : ℕ → Bool
mute x = leb blo x

-- An end in 11 may say its failure again and again: of failures that follow each other one is kept. A word comes in front of others, or behind them.
abbrev pub push : ℕ → List ℕ → List ℕ
push x [] = x ∷ []
push x (y ∷ u) = cond (eqb x fail && eqb y fail) (y ∷ u) (x ∷ y ∷ u)

abbrev pub behind : List ℕ → ℕ → List ℕ
behind [] x = x ∷ []
behind (y ∷ u) x = push y (behind u x)

abbrev pub kept : List ℕ → List ℕ
kept [] = []
kept (x ∷ w) = cond (mute x) (kept w) (push x (kept w))

-- but a BLO ends a call that is seized: whether one is on its way
abbrev pub blo_in : List ℕ → Bool
blo_in [] = false
blo_in (x ∷ w) = eqb x blo || blo_in w

-- What an end in state s takes without an answer, be it talk of a call that it made, or what it ignores while it waits. This is the one choice
-- that the proof makes by hand; c: the end controls the circuit.
abbrev pub quiet_in : (c : Bool) → ℕ → List ℕ
quiet_in c s =
    cond (eqb s 1) (1 ∷ cond c (iam ∷ clf ∷ []) [])
    (cond (leb 2 s && leb s 4) (s ∷ [])
    (cond (eqb s 5) (1 ∷ 2 ∷ 3 ∷ 4 ∷ fail ∷ rsc ∷ cond c (iam ∷ clf ∷ []) [])
    (cond (eqb s 12) (iam ∷ 1 ∷ 2 ∷ 3 ∷ 4 ∷ fail ∷ []) [])))

abbrev pub quiet : (c : Bool) → ℕ → ℕ → Bool
quiet c s x = has x (quiet_in c s)

-- the state after a quiet word: an outgoing call goes 1, 2, 3, 4, 3, .., any other end stays
abbrev pub next : ℕ → ℕ → ℕ
next s x = cond (eqb s x && leb s 4) (cond (eqb s 4) 3 (suc s)) s

pub data Run : Type 0 where
  ran : ℕ → List ℕ → Run

abbrev pub run : (c : Bool) → ℕ → List ℕ → Run
run c s [] = ran s []
run c s (x ∷ w) = cond (quiet c s x) (run c (next s x) w) (ran s (x ∷ w))

abbrev pub rest_of : Run → List ℕ
rest_of (ran p u) = u

abbrev pub end_of : Run → ℕ
end_of (ran p u) = p

-- what is seen of an end's calm: while it is calm, the run that its queue has from 12, where a restart leads
pub data Calm : Type 0 where
  stirred : Calm
  calm : Run → Calm

-- an end: its state, the run of its queue, if it is seized, whether a BLO is on its way to it, and its calm
pub data Half : Type 0 where
  half : ℕ → Run → Bool → Calm → Half

abbrev pub blo_for : ℕ → List ℕ → Bool
blo_for s w = blo_in w && eqb s 1

abbrev pub run_of : (c : Bool) → ℕ → List ℕ → Run
run_of c s w = run c s (kept w)

-- k: the end is calm
abbrev pub calm_of : (c k : Bool) → List ℕ → Calm
calm_of c false w = stirred
calm_of c true w = calm (run_of c 12 w)

abbrev pub view : (c k : Bool) → ℕ → List ℕ → Half
view c k s w = half s (run_of c s w) (blo_for s w) (calm_of c k w)

-- halves compared

abbrev pub same_run : Run → Run → Bool
same_run (ran p u) (ran q v) = eqb p q && same_list u v

abbrev pub same_bool : Bool → Bool → Bool
same_bool true b = b
same_bool false b = not b

abbrev pub same_calm : Calm → Calm → Bool
same_calm stirred stirred = true
same_calm stirred (calm q) = false
same_calm (calm r) stirred = false
same_calm (calm r) (calm q) = same_run r q

abbrev pub same_half : Half → Half → Bool
same_half (half s r b k) (half t q d l) = eqb s t && (same_run r q && (same_bool b d && same_calm k l))

same_run_lem : (r q : Run) → T (same_run r q) → r ≡ q
same_run_lem (ran p u) (ran q v) t =
    let e : p ≡ q = eqb→eq p q (left (eqb p q) (same_list u v) t) in
    let d : u ≡ v = same_list_lem u v (right (eqb p q) (same_list u v) t) in
    cc

pub same_bool_lem : (a b : Bool) → T (same_bool a b) → a ≡ b
same_bool_lem true true t = refl
same_bool_lem true false t = absurd t
same_bool_lem false true t = absurd t
same_bool_lem false false t = refl

same_calm_lem : (k l : Calm) → T (same_calm k l) → k ≡ l
same_calm_lem stirred stirred t = refl
same_calm_lem stirred (calm q) t = absurd t
same_calm_lem (calm r) stirred t = absurd t
same_calm_lem (calm r) (calm q) t = ap calm (same_run_lem r q t)

pub same_half_lem : (g h : Half) → T (same_half g h) → g ≡ h
same_half_lem (half s r b k) (half t q d l) h =
    let three : T (same_run r q && (same_bool b d && same_calm k l)) = right (eqb s t) _ h in
    let two : T (same_bool b d && same_calm k l) = right (same_run r q) _ three in
    let e : s ≡ t = eqb→eq s t (left (eqb s t) _ h) in
    let f : r ≡ q = same_run_lem r q (left (same_run r q) _ three) in
    let g : b ≡ d = same_bool_lem b d (left (same_bool b d) _ two) in
    let i : k ≡ l = same_calm_lem k l (right (same_bool b d) _ two) in
    cc

-- a word joins the queue

abbrev pub run_more : (c : Bool) → Run → ℕ → Run
run_more c (ran p []) x = run c p (x ∷ [])
run_more c (ran p (y ∷ u)) x = ran p (behind (y ∷ u) x)

abbrev pub join_run : (c : Bool) → Run → ℕ → Run
join_run c r x = cond (mute x) r (run_more c r x)

abbrev pub join_calm : (c : Bool) → Calm → ℕ → Calm
join_calm c stirred x = stirred
join_calm c (calm r) x = calm (join_run c r x)

abbrev pub join : (c : Bool) → Half → ℕ → Half
join c (half s r b k) x = half s (join_run c r x) (b || eqb x blo && eqb s 1) (join_calm c k x)

abbrev pub join_all : (c : Bool) → Half → List ℕ → Half
join_all c h [] = h
join_all c h (x ∷ o) = join_all c (join c h x) o

-- two failures in front are one
fail_twice : (u : List ℕ) → push fail (push fail u) ≡ push fail u
fail_twice [] = refl
fail_twice (y ∷ u) = by (eqb y fail) refl
  where
    by : (b : Bool) → eqb y fail ≡ b → push fail (cond b (y ∷ u) (fail ∷ y ∷ u)) ≡ cond b (y ∷ u) (fail ∷ y ∷ u)
    by true e = rw e
    by false e = refl

behind_push : (y : ℕ) (u : List ℕ) (x : ℕ) → behind (push y u) x ≡ push y (behind u x)
behind_push y [] x = refl
behind_push y (z ∷ u) x = by (eqb y fail && eqb z fail) (λ b. eqb→eq y fail (left (eqb y fail) _ b)) (λ b. eqb→eq z fail (right (eqb y fail) _ b))
  where
    by : (b : Bool) → (T b → y ≡ fail) → (T b → z ≡ fail) → behind (cond b (z ∷ u) (y ∷ z ∷ u)) x ≡ push y (push z (behind u x))
    by true d e = rw (d tt, e tt) (sym (fail_twice (behind u x)))
    by false d e = refl

next_fail : (s : ℕ) → next s fail ≡ s
next_fail s = by (eqb s fail) (eqb→eq s fail)
  where
    by : (b : Bool) → (T b → s ≡ fail) → cond (b && leb s 4) (cond (eqb s 4) 3 (suc s)) s ≡ s
    by true e = rw (e tt)
    by false e = refl

-- the run of a queue with one word more in front
pub run_push : (c : Bool) (s x : ℕ) (u : List ℕ) → run c s (push x u) ≡ cond (quiet c s x) (run c (next s x) u) (ran s (push x u))
run_push c s x [] = refl
run_push c s x (y ∷ u) = by (eqb x fail && eqb y fail) (λ b. eqb→eq x fail (left (eqb x fail) _ b)) (λ b. eqb→eq y fail (right (eqb x fail) _ b))
  where
    -- an end that takes a failure quietly stays where it is, and takes a second one as well
    twice : (q : Bool) → cond q (run c s u) (ran s (fail ∷ u)) ≡ cond q (cond q (run c s u) (ran s (fail ∷ u))) (ran s (fail ∷ u))
    twice true = refl
    twice false = refl

    by : (b : Bool) → (T b → x ≡ fail) → (T b → y ≡ fail)
        → run c s (cond b (y ∷ u) (x ∷ y ∷ u)) ≡ cond (quiet c s x) (run c (next s x) (y ∷ u)) (ran s (cond b (y ∷ u) (x ∷ y ∷ u)))
    by true d e = rw (d tt, e tt, next_fail s, next_fail s) (twice (quiet c s fail))
    by false d e = refl

run_more_lem : (c : Bool) (s : ℕ) (u : List ℕ) (k : ℕ) → run_more c (run c s u) k ≡ run c s (behind u k)
run_more_lem c s [] k = refl
run_more_lem c s (x ∷ u) k = by (quiet c s x) (run_more_lem c (next s x) u k) ∙ sym (run_push c s x (behind u k))
  where
    by : (q : Bool) → run_more c (run c (next s x) u) k ≡ run c (next s x) (behind u k)
        → run_more c (cond q (run c (next s x) u) (ran s (x ∷ u))) k ≡ cond q (run c (next s x) (behind u k)) (ran s (push x (behind u k)))
    by true ih = ih
    by false ih = refl

kept_more : (w : List ℕ) (x : ℕ) → kept (w ++ (x ∷ [])) ≡ cond (mute x) (kept w) (behind (kept w) x)
kept_more [] x = refl
kept_more (y ∷ w) x = rw (kept_more w x) (by (mute y) (mute x))
  where
    by : (a b : Bool) → cond a (cond b (kept w) (behind (kept w) x)) (push y (cond b (kept w) (behind (kept w) x)))
        ≡ cond b (cond a (kept w) (push y (kept w))) (behind (cond a (kept w) (push y (kept w))) x)
    by true true = refl
    by true false = refl
    by false true = refl
    by false false = sym (behind_push y (kept w) x)

blo_more : (w : List ℕ) (x : ℕ) → blo_in (w ++ (x ∷ [])) ≡ (blo_in w || eqb x blo)
blo_more [] x = or-false (eqb x blo)
blo_more (y ∷ w) x = rw (blo_more w x) (by (eqb y blo))
  where
    by : (a : Bool) → (a || (blo_in w || eqb x blo)) ≡ ((a || blo_in w) || eqb x blo)
    by true = refl
    by false = refl

share : (a b d : Bool) → (a && d || b && d) ≡ ((a || b) && d)
share true true true = refl
share true true false = refl
share true false true = refl
share true false false = refl
share false b d = refl

-- the half after a word is the view of the longer queue

joined_run : (c : Bool) (s : ℕ) (w : List ℕ) (x : ℕ) → join_run c (run_of c s w) x ≡ run_of c s (w ++ (x ∷ []))
joined_run c s w x = rw (kept_more w x) (by (mute x))
  where
    by : (m : Bool) → cond m (run_of c s w) (run_more c (run_of c s w) x) ≡ run c s (cond m (kept w) (behind (kept w) x))
    by true = refl
    by false = run_more_lem c s (kept w) x

joined_calm : (c k : Bool) (w : List ℕ) (x : ℕ) → join_calm c (calm_of c k w) x ≡ calm_of c k (w ++ (x ∷ []))
joined_calm c false w x = refl
joined_calm c true w x = ap calm (joined_run c 12 w x)

joined_one : (c k : Bool) (s : ℕ) (w : List ℕ) (x : ℕ) → join c (view c k s w) x ≡ view c k s (w ++ (x ∷ []))
joined_one c k s w x =
    let e : join_run c (run_of c s w) x ≡ run_of c s (w ++ (x ∷ [])) = joined_run c s w x in
    let f : (blo_for s w || eqb x blo && eqb s 1) ≡ blo_for s (w ++ (x ∷ [])) = rw (blo_more w x) (share (blo_in w) (eqb x blo) (eqb s 1)) in
    let g : join_calm c (calm_of c k w) x ≡ calm_of c k (w ++ (x ∷ [])) = joined_calm c k w x in
    cc

pub joined : (c k : Bool) (s : ℕ) (w o : List ℕ) → join_all c (view c k s w) o ≡ view c k s (w ++ o)
joined c k s w [] = ap (view c k s) (sym (append-nil w))
joined c k s w (x ∷ o) = ap (λ (h : Half). join_all c h o) (joined_one c k s w x) ∙ (joined c k s (w ++ (x ∷ [])) o ∙ ap (view c k s) (append_assoc w (x ∷ []) o))

-- a change of state

abbrev pub outgoing : List ℕ
outgoing = 1 ∷ 2 ∷ 3 ∷ 4 ∷ []

-- the states that quiet words lead through
abbrev pub family : ℕ → List ℕ
family s = cond (has s outgoing) outgoing (s ∷ [])

-- t takes quietly, and stays, whatever these states take quietly
abbrev absorbs_word : (c : Bool) → ℕ → List ℕ → ℕ → ℕ → Bool
absorbs_word c t l s x = has (next s x) l && (quiet c t x && eqb (next t x) t)

abbrev pub absorbs : (c : Bool) → ℕ → List ℕ → Bool
absorbs c t l = all_in (λ s. all_in (absorbs_word c t l s) (quiet_in c s)) l

-- then the run from t starts behind the run from s
pub run_absorbs : (c : Bool) (t : ℕ) (l : List ℕ) → T (absorbs c t l) → (s : ℕ) → T (has s l) → (u : List ℕ) → run c t u ≡ run c t (rest_of (run c s u))
run_absorbs c t l a s m [] = refl
run_absorbs c t l a s m (x ∷ u) = by (quiet c s x) (λ q. at_has (absorbs_word c t l s) (quiet_in c s) x q all) (λ n. run_absorbs c t l a (next s x) n u)
  where
    all : T (all_in (absorbs_word c t l s) (quiet_in c s))
    all = at_has (λ r. all_in (absorbs_word c t l r) (quiet_in c r)) l s m a

    by : (q : Bool) → (T q → T (absorbs_word c t l s x)) → (T (has (next s x) l) → run c t u ≡ run c t (rest_of (run c (next s x) u)))
        → run c t (x ∷ u) ≡ run c t (rest_of (cond q (run c (next s x) u) (ran s (x ∷ u))))
    by false e ih = refl
    by true e ih =
        let two : T (quiet c t x && eqb (next t x) t) = right (has (next s x) l) _ (e tt) in
        let qt : quiet c t x ≡ true = is_true (quiet c t x) (left (quiet c t x) _ two) in
        let st : next t x ≡ t = eqb→eq (next t x) t (right (quiet c t x) _ two) in
        ap (λ (q : Bool). cond q (run c (next t x) u) (ran t (x ∷ u))) qt ∙ (ap (λ (n : ℕ). run c n u) st ∙ ih (left (has (next s x) l) _ (e tt)))

-- where a run from an outgoing state can end: a call goes on, and not back
abbrev pub reach : ℕ → List ℕ
reach s = cond (eqb s 1) outgoing (cond (eqb s 2) (2 ∷ 3 ∷ 4 ∷ []) (3 ∷ 4 ∷ []))

abbrev onward_by : ℕ → ℕ → Bool
onward_by s x = has (next s x) outgoing && all_in (λ p. has p (reach s)) (reach (next s x))

abbrev onward : (c : Bool) → ℕ → Bool
onward c s = has s (reach s) && all_in (onward_by s) (quiet_in c s)

all_onward : T (each_bool (λ c. all_in (onward c) outgoing))
all_onward = tt

pub run_ends : (c : Bool) (s : ℕ) → T (has s outgoing) → (u : List ℕ) → T (has (end_of (run c s u)) (reach s))
run_ends c s m u = go u s m
  where
    at : (s : ℕ) → T (has s outgoing) → T (onward c s)
    at s m = at_has (onward c) outgoing s m (at_bool (λ c. all_in (onward c) outgoing) all_onward c)

    go : (u : List ℕ) (s : ℕ) → T (has s outgoing) → T (has (end_of (run c s u)) (reach s))
    go [] s m = left (has s (reach s)) _ (at s m)
    go (x ∷ u) s m = by (quiet c s x) (λ q. at_has (onward_by s) (quiet_in c s) x q (right (has s (reach s)) _ (at s m))) (λ n. go u (next s x) n)
      where
        by : (q : Bool) → (T q → T (onward_by s x)) → (T (has (next s x) outgoing) → T (has (end_of (run c (next s x) u)) (reach (next s x))))
            → T (has (end_of (cond q (run c (next s x) u) (ran s (x ∷ u)))) (reach s))
        by false e ih = left (has s (reach s)) _ (at s m)
        by true e ih =
            let i : T (has (end_of (run c (next s x) u)) (reach (next s x))) = ih (left (has (next s x) outgoing) _ (e tt)) in
            at_has (λ p. has p (reach s)) (reach (next s x)) (end_of (run c (next s x) u)) i (right (has (next s x) outgoing) _ (e tt))
