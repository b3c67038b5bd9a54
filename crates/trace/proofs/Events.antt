-- A replay can be fed in parts: the laws of what stands ahead in a trace, from those of its records.
-- Assumes nothing.
use mathlib.Core.Path.{◌≡◌, refl, ap, sym, ◌∙◌}
use mathlib.Core.Bool.{true, false}
use mathlib.Core.List.{List, ◌++◌}
use Prim.Native.Nat.{ℕ, ◌≤◌, ◌<◌}
use lib.ListN.{length}
use Rattle.records.specs.declared.Recorded.{Recorded}
use Rattle.records.specs.declared.Item.{Item}
use Rattle.records.specs.declared.Item.TheVariants.{Event, NoEvent, Short, End}
use Rattle.records.specs.Records.{octets_of, recorded, item}
use Rattle.records.proofs.Items.{never, ends, whole, by_item, event_stays, none_stays}
use Rattle.parts.specs.declared.Running.{Running}
use Rattle.parts.specs.Whole.{Ahead, Ahead.Takes, Ahead.NoRecord, Ahead.Partial, Ahead.AtEnd, Lawful, settled}
use Rattle.trace.specs.Replay.{ahead_of, replaying}

-- where a record is taken, an event stands
pub is_event : {P : Type 0} (i : Item) (r : Running) (table : List ℕ) (n : ℕ) (x table' : List ℕ) → ahead_of i r table ≡ Takes n x table'
    → ((e : Recorded) → i ≡ Event e → octets_of e.kind ≡ n → P) → P
is_event (Event e) r table n x table' h go = go e refl (cc)
is_event NoEvent r table n x table' h go = never cc
is_event Short r table n x table' h go = never cc
is_event End r table n x table' h go = never cc

module _ (r : Running) (table s : List ℕ) where
  abbrev here : Ahead (List ℕ)
  here = ahead_of (item s) r table

  takes_fits : (n : ℕ) (x table' : List ℕ) → here ≡ Takes n x table' → (0 < n) × (n ≤ length s)
  takes_fits n x table' h = is_event (item s) r table n x table' h (λ e q k. let w = whole s e q in (rw k at w.some, rw k at w.fits))

  stays_there : (rest : List ℕ) → settled here ≡ true → ahead_of (item (s ++ rest)) r table ≡ here
  stays_there rest h =
      by_item s
      (λ z q. never (let y : false ≡ true = rw q at h in cc))
      (λ z n q. ap (λ (i : Item). ahead_of i r table) (none_stays s rest z n ∙ sym q))
      (λ z q. never (let y : false ≡ true = rw q at h in cc))
      (λ q. ap (λ (i : Item). ahead_of i r table) (event_stays s rest (recorded s) q ∙ sym q))

  ends_there : here ≡ AtEnd → length s ≡ 0
  ends_there h =
      by_item s
      (λ z q. z)
      (λ z n q. never (let y : NoRecord ≡ AtEnd = rw q at h in cc))
      (λ z q. never (let y : Partial ≡ AtEnd = rw q at h in cc))
      (λ q. never (let y = rw q at h in cc))

pub lawful : Lawful replaying
lawful = record {
  fits = λ r table s n x table' h. takes_fits r table s n x table' h;
  stays = λ r table s rest h. stays_there r table s rest h;
  ends = λ r table s h. ap (λ (i : Item). ahead_of i r table) (ends s h);
  ended = λ r table s h. ends_there r table s h;
}
