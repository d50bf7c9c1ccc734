-- What is printed for a port's counters, and for the causes that it counts by.
use Rattle.std.specs.Prelude.{ℕ, List, [], ◌∷◌, ◌++◌, flat_map, codes}
use Rattle.iol_isdu.specs.declared.values.Cause.{Cause}
use Rattle.iol_isdu.specs.declared.values.Cause.TheVariants.{LinkLost, Restarted, BusyTooLong, Protocol, Cancelled}
use Rattle.iol_port.specs.declared.counters.Counters.{Counters}
use Rattle.iol_commands.specs.Printed.{number_text}

-- why a request was cut off
abbrev pub cause_name : Cause → List ℕ
cause_name LinkLost = codes "LinkLost"
cause_name Restarted = codes "Restarted"
cause_name BusyTooLong = codes "BusyTooLong"
cause_name Protocol = codes "Protocol"
cause_name Cancelled = codes "Cancelled"

-- the counters, each behind its name: requests that were cut off by the name of the cause
abbrev pub named_counters : Counters → List (List ℕ × ℕ)
named_counters c =
    (codes "exchanges", c.exchanges)
    ∷ (codes "good", c.good_replies)
    ∷ (codes "repeats", c.repeats)
    ∷ (codes "none", c.no_reply)
    ∷ (codes "length", c.wrong_length)
    ∷ (codes "checksum", c.wrong_checksum)
    ∷ (codes "lost", c.links_lost)
    ∷ (codes "startups", c.start_ups)
    ∷ (codes "done", c.done)
    ∷ (cause_name LinkLost, c.unknown.link_lost)
    ∷ (cause_name Restarted, c.unknown.restarted)
    ∷ (cause_name BusyTooLong, c.unknown.busy_too_long)
    ∷ (cause_name Protocol, c.unknown.protocol)
    ∷ (cause_name Cancelled, c.unknown.cancelled)
    ∷ []

-- a counter behind its name
abbrev pub counter_text : List ℕ × ℕ → List ℕ
counter_text (name, count) = codes " " ++ name ++ number_text (codes " ") count

-- the line of all counters
abbrev pub counters_text : Counters → List ℕ
counters_text c = codes "counters" ++ flat_map counter_text (named_counters c) ++ codes "\n"
