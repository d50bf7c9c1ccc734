-- The turns that workers make at ports whose locks are held, while their gate lets them.
use Rattle.std.specs.Prelude.{◌≡◌, ◌⊎◌, ◌<◌, ◌≤◌, ◌+◌, ℕ, Bool, true, false, List, length, Result, Ok, Err}
use Rattle.iol_master.specs.declared.fault.MasterFault.{MasterFault}
use Rattle.iol_master.specs.Ports.{PortFacts}

-- What a gate gives: the gate, the port's number, the turn's, the answer
abbrev pub GateFacts : Type 0 → Type 1
GateFacts G = G → ℕ → ℕ → Bool → Type 0

module _ {G : Type 0} (pass_gives : GateFacts G) (gate : G) (number : ℕ) where
  -- The gate let so many turns pass, from the first on. Then all that were wanted are made, or it
  -- said no to the next.
  pub record IsLet (turns made : ℕ) : Type 0 where
    pub yes : (turn : ℕ) → turn < made → pass_gives gate number (turn + 1) true
    pub ends : (made ≡ turns) ⊎ ((made < turns) × pass_gives gate number (made + 1) false)

module _ {P : Type 0} (facts : PortFacts P) where
  -- a turn that was made at some port, whose lock was held
  pub record PortTurn : Type 0 where
    pub before : P
    pub after : P
    pub turns : facts.turns before after

  -- A worker's turns: a list, of so many, that its gate let pass
  pub record IsWorked {G : Type 0} (pass_gives : GateFacts G) (gate : G) (number turns made : ℕ)
      : Type 0 where
    pub list : List PortTurn
    pub count : length list ≡ made
    pub let_in : IsLet pass_gives gate number turns made

  module _ {G : Type 0} (pass_gives : GateFacts G) (gate : G) where
    -- each port from the first up to the end had a worker, which made its turns
    abbrev pub AreWorked : ℕ → ℕ → ℕ → Type 0
    AreWorked first end turns = (number : ℕ) → first ≤ number → number < end
        → (made : ℕ) × IsWorked pass_gives gate number turns made

    -- All had, or only those before a port for which none was started
    abbrev pub Works : ℕ → ℕ → ℕ → Result (Unit {0}) MasterFault → Type 0
    Works first end turns (Ok done) = AreWorked first end turns
    Works first end turns (Err why) =
        (none : ℕ) × (first ≤ none) × (none < end) × AreWorked first none turns
