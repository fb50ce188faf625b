-- Each reference's ticket is handed out once.
use Rattle.std.specs.Prelude.{◌≡◌, ℕ, ◌==◌, if◌then◌else◌, List, [], ◌∷◌, ◌++◌, take, drop}
use Rattle.evbuf_chain.specs.Mark.{Marks, unmarked, reference_marks, ended_tickets, uncut_marks}

-- the tickets that are still to be handed out: those that wait, and those of the references with bytes left
abbrev pub outstanding : Marks → List ℕ → List ℕ
outstanding marks released = released ++ ended_tickets marks

-- the same tickets, and this one once more among them
abbrev pub WithTicket : ℕ → List ℕ → List ℕ → Type 0
WithTicket ticket old new =
    (before : List ℕ) × (after : List ℕ) × (old ≡ before ++ after) × (new ≡ before ++ (ticket ∷ after))

-- a reference that comes in has its ticket to be handed out once, whether it has bytes or none
abbrev pub OneTicketEach : Type 0
OneTicketEach =
    (marks : Marks) (released : List ℕ) (ticket n : ℕ)
    → WithTicket ticket (outstanding marks released)
    (outstanding (marks ++ reference_marks ticket n) (released ++ (if n == 0 then ticket ∷ [] else [])))

-- a drain of bytes loses no ticket and makes none
abbrev pub DrainKeepsTickets : Type 0
DrainKeepsTickets =
    (marks : Marks) (released : List ℕ) (n : ℕ)
    → outstanding (drop n marks) (released ++ ended_tickets (take n marks)) ≡ outstanding marks released

-- nor does a pullup
abbrev pub PullupKeepsTickets : Type 0
PullupKeepsTickets =
    (marks : Marks) (released : List ℕ) (n : ℕ)
    → outstanding (unmarked n ++ drop n marks) (released ++ ended_tickets (take n marks)) ≡ outstanding marks released

-- nor do bytes that go to another buffer, also where a reference is cut
abbrev pub MoveKeepsTickets : Type 0
MoveKeepsTickets =
    (to from : Marks) (n : ℕ)
    → ended_tickets (to ++ uncut_marks (take n from)) ++ ended_tickets (drop n from)
    ≡ ended_tickets to ++ ended_tickets from
