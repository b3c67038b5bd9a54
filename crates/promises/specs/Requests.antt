-- What later requests added: T-01, release ranks (docs/RULES.md, "Release ranks"), T-02, the choice of a circuit ("Choice of a circuit"), T-03,
-- nonsense before address complete ("Signals that arrive"), T-06, the rules as a constant table ("Forms in the code"), and T-09, short international
-- numbers ("Messages on the link"). T-05 has a page of its own, `Places`.
-- Assumes nothing.
use Rattle.std.specs.Prelude.{◌≡◌, Bool, not, cond, ◌&&◌, ◌||◌, List, [], ◌∷◌, map, ◌↔◌, ◌⊎◌, ℕ, suc, ◌+◌, ◌%◌, ◌<◌, ◌≤◌, ◌^◌, T, eqb, leb, ltb, length, Option, Some, None}
use Rattle.std.proofs.Math.Path.{refl}
use Rattle.std.proofs.Common.{sym, ap, ◌∙◌, subst, ne_eqb}
use Rattle.std.proofs.Math.Bool.{true, false}
use Rattle.std.proofs.Math.Logic.{inl, inr}
use Rattle.circuit.specs.declared.Record.{Record}
use Rattle.circuit.specs.declared.Signal.{Signal}
use Rattle.circuit.specs.declared.Signal.TheVariants.{Iam, Acm, Anc, Ann, Cbk, Clf, Ran, Rlg, Blo, Bla, Ubl, Uba, Rsc, Fail}
use Rattle.circuit.specs.declared.Sends.TheVariants.{Nothing, One}
use Rattle.circuit.specs.declared.Outcome.{Outcome}
use Rattle.circuit.specs.declared.Command.TheVariants.{Seize}
use Rattle.circuit.specs.declared.Event.{Event}
use Rattle.circuit.specs.declared.Event.TheVariants.{Arrives, Ordered, RunsOut}
use Rattle.circuit.specs.Records.{rec, valid}
use Rattle.circuit.specs.Rows.{first, answered, discarded}
use Rattle.circuit.specs.Groups.{bad_group, controls}
use Rattle.circuit.specs.Refusals.{Rule, refuse, first_rule, Given}
use Rattle.circuit.proofs.Every.{is_true}
use Rattle.words.specs.Words.{largest}
use Rattle.step.specs.Step.{step}
use Rattle.step.specs.Frees.{freed, frees}
use Rattle.step.proofs.Always.{frees_listed}
use Rattle.calls.specs.Calls.{call, meaning, is_number}
use Rattle.calls.proofs.Rule.{apart}
use Rattle.layout.specs.Layout.{records_in, counter_in, state_at, rank_at, record_at, allowed_at, idle}
use Rattle.group.specs.Table.{step_in}
use Rattle.group.specs.Runs.{Follows, events}
use Rattle.group.proofs.Laws as group
use Rattle.group.proofs.Ranks as ranks
use Rattle.select.specs.First.{some}
use Rattle.select.specs.Selection.{qualifies, select_in}
use Rattle.select.proofs.First.{some_at, none_at}
use Rattle.select.proofs.Laws as choices
use Rattle.circuit.proofs.Refusals.{every_number, answer_fits, answered as given_exactly}
use Rattle.formats.specs.Octets.{besides_st, to_operator, short}
use Rattle.reader.specs.Reading.{reading}
use Rattle.ends.specs.Ends.{End, end, EndsCome, unheard, ClaimUnheard}
use Rattle.ends.proofs.Heard.{some_never_arrive}
use Rattle.ends.proofs.Plain.{not_both}
use Rattle.exchanges.specs.Link.{Message, Exchange, exchange, ExchangesCome}
use Rattle.exchanges.proofs.Over.{head_heard}
use Rattle.promises.specs.Demand1.{event_rules}

-- T-01. REMEMBER WHEN A CIRCUIT WAS FREED

-- the circuit went from another state to idle
abbrev idled : (before after : List ℕ) → (cic : ℕ) → Bool
idled before after cic = not (eqb (state_at before cic) 0) && eqb (state_at after cic) 0

-- an event that takes a record from another state to idle raises the counter by one, and the record takes it; no other event changes the
-- counter or a rank. Of every table and every event.
module _ (own far : ℕ) (table : List ℕ) (cic : ℕ) (event : Option Event) where
  abbrev after : List ℕ
  after = (step_in own far table cic event).table

  pub counter_counts : counter_in after ≡ cond (idled table after cic) (counter_in table + 1) (counter_in table)
  counter_counts = (ranks.counted own far table cic event).counter

  pub rank_is_taken : (i : ℕ) → rank_at after i ≡ cond (idled table after cic && eqb i cic) (counter_in table + 1) (rank_at table i)
  rank_is_taken = (ranks.counted own far table cic event).ranks

-- exactly these take a record that is allowed from another state to idle: CLF in 1 and 5 not controlling and in 6 to 12, RLG in 5 and 12, RSC in
-- 6 to 11; no other signal, no command, no timer
pub these_free : (c : Bool) (r : Record) (e : Event) → T (valid r) → freed r.state (step c r e) ≡ frees c r.state e
these_free = frees_listed

pub freeing_signals : (c : Bool) (s : ℕ)
    → (frees c s (Arrives Clf) ∷ frees c s (Arrives Rlg) ∷ frees c s (Arrives Rsc) ∷ [])
    ≡ ((not c && (eqb s 1 || eqb s 5)) || (leb 6 s && leb s 12)) ∷ (eqb s 5 || eqb s 12) ∷ (leb 6 s && leb s 11) ∷ []
freeing_signals c s = refl

-- counter and ranks start at 0 and are 64-bit numbers: of every table that events lead to from zeros, ranks are at most the counter, and of two
-- circuits that have been freed the ranks differ
pub from_zeros : {own far : ℕ} {table : List ℕ} (octets : ℕ) → Follows own far (idle octets) table
    → (length table ≡ length (idle octets))
    × ((i : ℕ) → i < records_in (length table) → rank_at table i ≤ counter_in table)
    × ((i j : ℕ) → i < records_in (length table) → j < records_in (length table) → (i ≡ j → ⊥) → counter_in (idle octets) < rank_at table i → rank_at table i ≡ rank_at table j → ⊥)
from_zeros octets f = let k = ranks.from_zeros octets f in (k.records, k.ranked, k.apart)

-- from any table whose ranks are at most its counter: no rank falls
pub ranks_rise : {own far : ℕ} {first last : List ℕ} → ((i : ℕ) → i < records_in (length first) → rank_at first i ≤ counter_in first)
    → Follows own far first last → (i : ℕ) → i < records_in (length first) → rank_at first i ≤ rank_at last i
ranks_rise low f = (ranks.kept low f).rises

-- a circuit that is freed later has the higher rank: of two events with any others between them, the first frees i and the second j
pub later_is_higher : (own far : ℕ) (first second : List ℕ) (i j : ℕ) (e f : Option Event)
    → idled first (step_in own far first i e).table i ≡ true
    → Follows own far (step_in own far first i e).table second
    → idled second (step_in own far second j f).table j ≡ true
    → rank_at (step_in own far first i e).table i < rank_at (step_in own far second j f).table j
later_is_higher = ranks.later

-- "13, the counter is at its largest value", 2^64 - 1; a group that starts idle answers it at none of its first 2^64 - 1 events
pub only13_at_largest : (own far : ℕ) (table : List ℕ) (cic : ℕ) (event : Option Event) → (step_in own far table cic event).answer.refusal ≡ 13 → largest ≤ counter_in table
only13_at_largest = ranks.spent_at

pub largest_is : largest + 1 ≡ 2 ^ 64
largest_is = refl

pub no13_at_first : {own far : ℕ} {table : List ℕ} (octets : ℕ) (f : Follows own far (idle octets) table) → events f < largest
    → (cic : ℕ) (event : Option Event) → (step_in own far table cic event).answer.refusal ≡ 13 → ⊥
no13_at_first = ranks.never13

-- the number of events that led to a table
pub none_counted : {own far : ℕ} {first : List ℕ} → (f : Follows own far first first) → f ≡ Follows.start → events f ≡ 0
none_counted f e = ap events e

pub one_more_counted : {own far : ℕ} {first last : List ℕ} (f : Follows own far first last) (cic : ℕ) (event : Option Event) → events (Follows.next f cic event) ≡ events f + 1
one_more_counted f cic event = refl

-- T-02. CHOOSE THE CIRCUIT FOR US

-- `some n f`: one of the numbers below n passes the test f
pub some_below : (n : ℕ) (f : ℕ → Bool) (i : ℕ) → i < n → T (f i) → some n f ≡ true
some_below = some_at

pub none_below : (n : ℕ) (f : ℕ → Bool) → some n f ≡ false → (i : ℕ) → i < n → T (f i) → ⊥
none_below = none_at

module _ (own far : ℕ) (table : List ℕ) where
  abbrev n : ℕ
  n = records_in (length table)

  abbrev chosen : ℕ
  chosen = (select_in own far table).cic.0

  -- a circuit qualifies that is idle and without far block
  pub what_qualifies : (i : ℕ) → qualifies table i ≡ (eqb (state_at table i) 0 && not (record_at table i).far)
  what_qualifies i = refl

  -- the chosen circuit is one of the table's, idle and without far block
  pub chosen_qualifies : (select_in own far table).refusal ≡ 0 → (chosen < n) × T (qualifies table chosen)
  chosen_qualifies = choices.chosen_qualifies own far table

  -- first, of the qualifying circuits that we control, the one released longest ago: where one of ours qualifies, the chosen one is
  -- ours, and none of ours was released before it; of equal ranks it is the lower CIC
  pub ours_first : (select_in own far table).refusal ≡ 0 → (j : ℕ) → j < n → T (qualifies table j && controls own far j)
      → T (controls own far chosen) × (rank_at table chosen ≤ rank_at table j) × (rank_at table chosen ≡ rank_at table j → chosen ≤ j)
  ours_first r j h t = let k = choices.of_ours own far table r j h t in (k.0, k.1.rank, k.1.number)

  -- if there are none, of those that we do not control, the one released latest: one of theirs is chosen only where none of ours qualifies, and none
  -- that qualifies was released after it; equal ranks again go to the lower CIC
  pub else_theirs : (select_in own far table).refusal ≡ 0 → (T (controls own far chosen) → ⊥) → (j : ℕ) → j < n → T (qualifies table j)
      → (T (controls own far j) → ⊥) × (rank_at table j ≤ rank_at table chosen) × (rank_at table chosen ≡ rank_at table j → chosen ≤ j)
  else_theirs r other j h t = let k = choices.of_theirs own far table r other j h t in (k.0, k.1.rank, k.1.number)

  -- "how many records were looked at. That is the whole table, unless a qualifying one of our own with rank 0 is found, where it stops: the count is
  -- that circuit's number plus one"
  pub looked_at : (select_in own far table).refusal ≡ 0
      → (select_in own far table).looked ≡ cond (some n (λ i. (qualifies table i && controls own far i) && eqb (rank_at table i) 0)) (chosen + 1) n
  looked_at = choices.counts own far table

  -- refusals: 1; 12 for any bad record of the table; then 14, exactly if no circuit qualifies
  abbrev choice_rules : List Rule
  choice_rules = refuse 1 (bad_group own far n) ∷ refuse 12 (some n (λ i. not (allowed_at table i))) ∷ refuse 14 (not (some n (qualifies table))) ∷ []

  pub choice_refused : (select_in own far table).refusal ≡ first_rule choice_rules
  choice_refused = choices.refusals own far table

  pub choice_given : (k : ℕ) → ((select_in own far table).refusal ≡ suc k) ↔ Given (suc k) choice_rules
  choice_given = given_exactly choice_rules (select_in own far table).refusal choice_refused

  -- each refusal reports circuit 0 and count 0
  pub refused_reports_none : ((select_in own far table).refusal ≡ 0 → ⊥) → (chosen ≡ 0) × ((select_in own far table).looked ≡ 0)
  refused_reports_none = choices.reports_none own far table

  -- a circuit number and a count of a group
  pub choice_is_small : (chosen < 4096) × ((select_in own far table).looked ≤ 4096)
  choice_is_small = choices.small own far table

  -- seizing the chosen circuit at once is accepted
  pub chosen_can_be_seized : (select_in own far table).refusal ≡ 0 → (step_in own far table chosen (Some (Ordered Seize))).answer.refusal ≡ 0
  chosen_can_be_seized = choices.seizable own far table

-- two ends that choose at once, whatever their tables: while each has a circuit of its own that qualifies, they do not choose the same one
pub never_the_same : (own far : ℕ) (here there : List ℕ) → (own ≡ far → ⊥) → (select_in own far here).refusal ≡ 0 → (select_in far own there).refusal ≡ 0
    → (i : ℕ) → i < records_in (length here) → T (qualifies here i && controls own far i)
    → (j : ℕ) → j < records_in (length there) → T (qualifies there j && controls far own j)
    → (select_in own far here).cic.0 ≡ (select_in far own there).cic.0 → ⊥
never_the_same = choices.never_meet

-- T-03. NONSENSE BEFORE ADDRESS COMPLETE

-- an answer, clear-back, re-answer or release-guard signal: these five and no other
pub data Nonsense : Signal → Type 0 where
  anc : Nonsense Anc
  ann : Nonsense Ann
  cbk : Nonsense Cbk
  ran : Nonsense Ran
  rlg : Nonsense Rlg

-- what has another indication has not 6
not6 : (n : ℕ) → T (not (eqb n 6)) → n ≡ 6 → ⊥
not6 n t e = rw e at t

neither6 : (b : Bool) (o p : Outcome) → T (not (eqb o.ind 6)) → T (not (eqb p.ind 6)) → (cond b o p).ind ≡ 6 → ⊥
neither6 true o p t u e = not6 o.ind t e
neither6 false o p t u e = not6 p.ind u e

-- a record in state 1, whatever flags it has of those that are allowed
module _ (own far bla uba : Bool) (allowed : T (valid (rec 1 own far bla uba))) where
  abbrev seized : Record
  seized = rec 1 own far bla uba

  is : valid seized ≡ true
  is = is_true (valid seized) allowed

  -- in both roles they send CLF, go to 5 and give indication 6; no flag changes
  pub nonsense_releases : (c : Bool) (s : Signal) → Nonsense s → step c seized (Arrives s) ≡ answered (rec 5 own far bla uba) (One Clf) 6
  unfolding step first
  nonsense_releases c _ anc = rw (is) refl
  nonsense_releases c _ ann = rw (is) refl
  nonsense_releases c _ cbk = rw (is) refl
  nonsense_releases c _ ran = rw (is) refl
  nonsense_releases c _ rlg = rw (is) refl

  -- no other signal gives indication 6 there but those that did before: BLO, RSC, and CLF where our end does not control the circuit
  pub no_other_gives6 : (c : Bool) (s : Signal) → (step c seized (Arrives s)).ind ≡ 6 → Nonsense s ⊎ (s ≡ Blo) ⊎ (s ≡ Rsc) ⊎ (s ≡ Clf) × (c ≡ false)
  unfolding step first
  no_other_gives6 c Anc e = inl anc
  no_other_gives6 c Ann e = inl ann
  no_other_gives6 c Cbk e = inl cbk
  no_other_gives6 c Ran e = inl ran
  no_other_gives6 c Rlg e = inl rlg
  no_other_gives6 c Blo e = inr (inl refl)
  no_other_gives6 c Rsc e = inr (inr (inl refl))
  no_other_gives6 false Clf e = inr (inr (inr (refl, refl)))
  no_other_gives6 true Clf e = absurd (not6 7 tt (rw (is) at e))
  no_other_gives6 true Iam e = absurd (not6 7 tt (rw (is) at e))
  no_other_gives6 false Iam e = absurd (not6 9 tt (rw (is) at e))
  no_other_gives6 c (Acm octet) e = absurd (not6 2 tt (rw (is) at e))
  no_other_gives6 c (Fail f) e = absurd (not6 10 tt (rw (is) at e))
  no_other_gives6 c Ubl e = absurd (not6 0 tt (rw (is) at e))
  no_other_gives6 c Bla e = absurd (neither6 bla (answered (rec 1 own far false uba) Nothing 0) (discarded seized) tt tt (rw (is) at e))
  no_other_gives6 c Uba e = absurd (neither6 uba (answered (rec 1 own far bla false) Nothing 0) (discarded seized) tt tt (rw (is) at e))

  -- what else makes no sense there is discarded as before: IAM and CLF where our end controls the circuit, BLA and UBA that are not awaited
  pub others_discarded : (step true seized (Arrives Iam) ≡ discarded seized) × (step true seized (Arrives Clf) ≡ discarded seized)
      × ((c : Bool) → bla ≡ false → step c seized (Arrives Bla) ≡ discarded seized)
      × ((c : Bool) → uba ≡ false → step c seized (Arrives Uba) ≡ discarded seized)
  unfolding step first
  others_discarded = (
    rw (is) refl,
    rw (is) refl,
    (λ c e. rw (is, e) refl),
    (λ c e. rw (is, e) refl),
  )

unheard_there : {s : Signal} {p : ℕ} → p ≡ 1 → Nonsense s → T (unheard p s)
unheard_there {s} one n = subst (λ (p : ℕ). T (unheard p s)) (sym one) (go n)
  where
    go : {s : Signal} → Nonsense s → T (unheard 1 s)
    go anc = tt
    go ann = tt
    go cbk = tt
    go ran = tt
    go rlg = tt

-- Between two ends of ours, whatever happens to them by the rules of `Demand3`, none of these ever arrives in state 1: what is the next to arrive at
-- an end in state 1 is none of them. So the row is about other makers' exchanges alone.
pub nonsense_never_comes : (own far cic : ℕ) → (own ≡ far → ⊥)
    → (r : Record) (s : Signal) (w : List Signal) (y : End) → EndsCome (controls own far cic) (controls far own cic) (end r (s ∷ w)) y
    → r.state ≡ 1 → Nonsense s → ⊥
unfolding ClaimUnheard
nonsense_never_comes own far cic apart r s w y q one n = not_both (unheard r.state s) (unheard_there one n) ((some_never_arrive own far cic apart (end r (s ∷ w)) y q).0 s w refl)

-- the same of two exchanges over a link, by the rules of `Demand3Link`: what the message at the head of the queue says on the circuit
pub nonsense_never_comes_in : (own far cic : ℕ) (t : List ℕ) (m : Message) (w : List Message) (y : Exchange) → ExchangesCome own far cic (exchange t (m ∷ w)) y
    → let read = reading own far (records_in (length t)) m in
    (s : Signal) → read.refusal ≡ 0 → read.message.circuit.0 ≡ cic → read.message.signal ≡ Some s
    → (record_at t cic).state ≡ 1 → Nonsense s → ⊥
nonsense_never_comes_in own far cic t m w y q s taken on says one n =
    not_both (unheard (record_at t cic).state s) (unheard_there one n) (head_heard own far cic t m w y q s taken on says)

-- T-06. SHOW THE RULES AS A TABLE

-- What the program's table of calls says is in `ByContract`, `calls_say`.
-- the numbers of the table: the first digit is the new state; the second the indication where nothing is sent, a CLF with 10, b CLF with 6, c RLG with
-- 0, d RLG with 5, e RLG with 6
pub numbers_mean : (meaning 0x69 ≡ call 6 0 9) × (meaning 0x5a ≡ call 5 0x46 10) × (meaning 0x5b ≡ call 5 0x46 6)
    × (meaning 0xcc ≡ call 12 0x17 0) × (meaning 0x0d ≡ call 0 0x17 5) × (meaning 0x0e ≡ call 0 0x17 6)
unfolding meaning
numbers_mean = (refl, refl, refl, refl, refl, refl)

-- no two of them mean the same
pub numbers_apart : (n m : ℕ) → T (is_number n) → T (is_number m) → meaning n ≡ meaning m → n ≡ m
numbers_apart = apart

-- T-09. SHORT INTERNATIONAL NUMBERS

-- When a reader and a writer refuse 17 is in their tables of `Demand1`. A number is short where the nature of address, the two lowest indicators, is 3 and
-- there are fewer than four signals besides ST, unless the first is code 11 or 12.
pub short_is : (indicators : ℕ) (address : List ℕ) → short indicators address ≡ (eqb (indicators % 4) 3 && (ltb (besides_st address) 4 && not (to_operator address)))
unfolding short
short_is indicators address = refl

pub besides_st_is : (code : ℕ) (rest : List ℕ) → (besides_st [] ≡ 0) × (besides_st (15 ∷ rest) ≡ besides_st rest) × ((code ≡ 15 → ⊥) → besides_st (code ∷ rest) ≡ suc (besides_st rest))
besides_st_is code rest = (refl, refl, λ other. ap (λ (st : Bool). cond st (besides_st rest) (suc (besides_st rest))) (ne_eqb code 15 other))

pub to_operator_is : (code : ℕ) (rest : List ℕ) → (to_operator [] ≡ false) × (to_operator (code ∷ rest) ≡ (eqb code 11 || eqb code 12))
to_operator_is code rest = (refl, refl)

-- with indicators 3 all of these are short but the third, which has four signals, and the fifth and the sixth, which go to an operator
pub numbers_short : map (short 3) ((1 ∷ 2 ∷ 3 ∷ []) ∷ (1 ∷ 2 ∷ 3 ∷ 15 ∷ []) ∷ (1 ∷ 2 ∷ 3 ∷ 4 ∷ []) ∷ (15 ∷ []) ∷ (11 ∷ []) ∷ (12 ∷ 15 ∷ []) ∷ (1 ∷ 11 ∷ 2 ∷ []) ∷ [])
    ≡ true ∷ true ∷ false ∷ true ∷ false ∷ false ∷ true ∷ []
unfolding short
numbers_short = refl

-- with these indicators 1 2 3 is short but for the first three, whose two lowest bits are not 3
pub natures_short : map (λ (indicators : ℕ). short indicators (1 ∷ 2 ∷ 3 ∷ [])) (0 ∷ 1 ∷ 2 ∷ 3 ∷ 7 ∷ 11 ∷ 2047 ∷ []) ≡ false ∷ false ∷ false ∷ true ∷ true ∷ true ∷ true ∷ []
unfolding short
natures_short = refl

abbrev other : (refusal : ℕ) → Bool
other refusal = not (eqb refusal 17)

-- an event says nothing of indicators, and is never refused 17; nor is a choice
pub events_never17 : (own far : ℕ) (table : List ℕ) (cic : ℕ) (event : Option Event) → (step_in own far table cic event).answer.refusal ≡ 17 → ⊥
events_never17 own far table cic event e = answer_fits other (event_rules own far table cic event) (none_is event) 16 (sym (group.refusals own far table cic event) ∙ e)
  where
    none_is : (event : Option Event) → T (every_number other (event_rules own far table cic event))
    none_is None = tt
    none_is (Some (Arrives s)) = tt
    none_is (Some (Ordered k)) = tt
    none_is (Some (RunsOut t)) = tt

pub choices_never17 : (own far : ℕ) (table : List ℕ) → (select_in own far table).refusal ≡ 17 → ⊥
choices_never17 own far table e = answer_fits other (choice_rules own far table) tt 16 (sym (choice_refused own far table) ∙ e)
