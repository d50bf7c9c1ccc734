-- Captures that are written by the rules, so that the law says something.
use Rattle.std.specs.Prelude.{ℕ, List, [], ◌∷◌}
use Rattle.iol_link.specs.declared.wire.Rate.TheVariants.{Com3}
use Rattle.iol_capture.specs.SplitterState.{new_splitter}
use Rattle.iol_capture.specs.Written.{AreWritten, Item, Passes, Tests, TimedOctet, Wakes}

abbrev pub at : ℕ → ℕ → TimedOctet
at time octet = record { time = time; octet = octet }

-- A start at COM3, with two test reads, a read of page address 0x03, and a mode command to which no
-- reply comes.
abbrev pub some_capture : List Item
some_capture =
    Wakes 0 (record { control = 100000; check = 147740; answer = [] } ∷ []) (record {
      control = 300000;
      check = 347740;
      value = at 417180 0x17;
      status = at 464920 0x1B;
    })
    ∷ Passes (record {
      sent = at 556060 0xA3 ∷ at 603800 0x11 ∷ [];
      answer = at 673240 0x2D ∷ at 720980 0x28 ∷ [];
    })
    ∷ Passes (record {
      sent = at 812120 0x20 ∷ at 859860 0x36 ∷ at 907600 0x9A ∷ [];
      answer = [];
    })
    ∷ []

-- One in which no wake-up request is shown: to the first test read comes a reply that isn't good.
abbrev pub unshown_capture : List Item
unshown_capture =
    Tests (record {
      control = 100000;
      check = 147740;
      answer = at 217180 0x17 ∷ at 264920 0x1A ∷ [];
    }
    ∷ []) (record {
      control = 400000;
      check = 447740;
      value = at 517180 0x17;
      status = at 564920 0x1B;
    })
    ∷ []

abbrev pub SomeAreWritten : Type 0
SomeAreWritten =
    AreWritten (new_splitter Com3) some_capture × AreWritten (new_splitter Com3) unshown_capture
