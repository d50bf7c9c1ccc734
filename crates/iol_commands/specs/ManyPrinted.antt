-- What `many` prints.
use Rattle.std.specs.Prelude.{◌≡◌, ℕ, List, [], ◌++◌, All, Ok, vec_len, flat_map, codes, Err, IsOk}
use Rattle.std.specs.List.{enumerate_from}
use Rattle.iol_sim.specs.Beside.{plain_facts}
use Rattle.iol_sim.specs.Params.{Stores}
use Rattle.iol_sim.specs.Sim.{sim_facts}
use Rattle.iol_port.specs.declared.counters.Counters.{Counters}
use Rattle.iol_clients.specs.Counts.{AddsUp}
use Rattle.iol_clients.specs.Served.{ClientsAreServed}
use Rattle.iol_clients.specs.declared.counts.RequestCounts.{RequestCounts}
use Rattle.iol_clients.specs.declared.counts.PortCounts.{PortCounts}
use Rattle.iol_clients.specs.declared.counts.MasterCounts.{MasterCounts}
use Rattle.iol_script.specs.Plan.{PlanNumbers, plan_of}
use Rattle.iol_script.specs.declared.plan.ShownCounts.{ShownCounts}
use Rattle.iol_script.specs.declared.plan.ShownCounts.TheVariants as shown
use Rattle.iol_commands.specs.Printed.{number_text}
use Rattle.iol_commands.specs.CountersPrinted.{counters_text}
use Rattle.iol_commands.specs.Input.{CommandReading}

-- the line of a port's tickets: its number, and how many tickets it gave, how many are done,
-- unknown and waiting
abbrev pub tickets_line : ℕ → RequestCounts → List ℕ
tickets_line port counted =
    number_text (codes "port ") port ++ number_text (codes " tickets ") counted.tickets
    ++ number_text (codes " done ") counted.done
    ++ number_text (codes " unknown ") counted.unknown
    ++ number_text (codes " waiting ") counted.waiting ++ codes "\n"

-- the line of a port's counters, where they are shown: its number, and what `run` prints
abbrev pub counters_line : ShownCounts → ℕ → Counters → List ℕ
counters_line shown.Tickets port counters = []
counters_line shown.Counters port counters =
    number_text (codes "port ") port ++ codes " " ++ counters_text counters

-- the lines of a port
abbrev pub port_text : ShownCounts → ℕ → PortCounts → List ℕ
port_text shown port counts =
    tickets_line port counts.requests ++ counters_line shown port counts.counters

-- the lines of ports, which are numbered from 1 on
abbrev pub ports_text : ShownCounts → List PortCounts → List ℕ
ports_text shown ports =
    flat_map (λ port. port_text shown port.0 port.1) (enumerate_from 1 ports)

-- the lines of each port, and the total
abbrev pub counts_text : ShownCounts → MasterCounts → List ℕ
counts_text shown counts =
    ports_text shown counts.ports.items ++ number_text (codes "total ") counts.total ++ codes "\n"

-- The text shows some counts, with one entry for each port of the plan that the
-- lines say. Each ticket of a port is done, unknown or waiting, as its collect answered, and its
-- counters are those that it had then.
pub record PrintsCounts (lines : List (ℕ × List ℕ)) (text : List ℕ) : Type 0 where
  pub plan : PlanNumbers
  pub counts : MasterCounts
  pub planned : plan_of lines ≡ Ok plan
  pub ports : vec_len counts.ports ≡ plan.ports
  pub up : All (λ port. AddsUp port.requests) counts.ports.items
  pub served : ClientsAreServed (sim_facts (plain_facts Stores)) plan counts
  pub text_is : text ≡ counts_text plan.shown counts

-- what `many` makes of its lines
abbrev pub many_reading : CommandReading
many_reading = record {
  bad_at = λ lines n. plan_of lines ≡ Err n;
  are_good = λ lines. IsOk (plan_of lines);
  bad_table = λ lines why. ⊥;
  prints = PrintsCounts;
}
