-- Two circuits over one link, computed from octets to octets: the claim of `Link` does not speak of nothing.
-- Assumes nothing.
use Rattle.std.specs.Prelude.{List, [], ◌∷◌, ℕ, replicate}
use Rattle.layout.specs.Layout.{idle}
use Rattle.ends.specs.Machine.{Both, Happening, Happening.arrives, Happening.host, Step, Step.first, Step.second, after}
use Rattle.exchanges.specs.Link.{Message, Exchange, Gift, Gift.event, exchange_acts}

-- what happens at the exchange with the code 2, which controls even circuits, or at the one with the code 1
abbrev pub A : Happening Gift → Step Gift
A = first

abbrev pub B : Happening Gift → Step Gift
B = second

abbrev pub Run : Type 0
Run = List (Step Gift)

abbrev pub ran_from : (watched : ℕ) → Both (List ℕ) Message → Run → Both (List ℕ) Message
ran_from watched = after (exchange_acts 2 1 watched) (exchange_acts 1 2 watched)

-- a command on a circuit; an ACM has the command's detail for its octet, an IAM two digits
abbrev pub command : (cic code detail : ℕ) → Happening Gift
command cic code detail = host (event cic 2 code detail (record { acm = detail; category = 10; indicators = 0; address = 1 ∷ 2 ∷ []; buffer = replicate 17 0 }))

-- at first: two tables of two circuits, all idle
abbrev pub quiet : Exchange
quiet = record { holds = idle 28; coming = [] }

-- a table of two circuits by its counter, and the state and rank of each, all below 256
abbrev pub two : (counter state rank state' rank' : ℕ) → List ℕ
two counter state rank state' rank' =
    counter ∷ 0 ∷ 0 ∷ 0 ∷ 0 ∷ 0 ∷ 0 ∷ 0
    ∷ state ∷ 0 ∷ rank ∷ 0 ∷ 0 ∷ 0 ∷ 0 ∷ 0 ∷ 0 ∷ 0
    ∷ state' ∷ 0 ∷ rank' ∷ 0 ∷ 0 ∷ 0 ∷ 0 ∷ 0 ∷ 0 ∷ 0 ∷ []

abbrev pub exchanges : (x : List ℕ) → List Message → (y : List ℕ) → List Message → Both (List ℕ) Message
exchanges x w y v = (record { holds = x; coming = w }, record { holds = y; coming = v })

-- a call each way; the address of each is complete, and both ACMs are on their way
abbrev pub crossing : Run
crossing = A (command 0 1 0) ∷ B (command 1 1 0) ∷ B arrives ∷ A arrives ∷ B (command 0 3 4) ∷ A (command 1 3 0) ∷ []

-- circuit 0 is restarted: its ACM is lost, the other circuit's is not
abbrev pub restarting : Run
restarting = A (command 0 10 0) ∷ []

-- all arrives
abbrev pub arriving : Run
arriving = B arrives ∷ B arrives ∷ A arrives ∷ []
