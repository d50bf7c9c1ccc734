-- A port crosses to another thread where its wire and its allocator do.
-- For the clauses of `example_gateway::serve::serve`, `example_gateway::serve::submit_beside`,
--     `iol_bench::served::with_ledgers` and 7 more.
use denote.RattleType.{RattleType}
use denote.Struct.Declared.{shape}
use denote.Param.Send.{IsSend, IsSync, Frees, view_send, recorded_send, struct_send, sendable}
use Rattle.std.proofs.Crossing.{crosses, send, sync, frees}
use Rattle.std.specs.declared.alloc.Allocator as alloc
use Rattle.std.specs.contracts.alloc.Global as Heap
use Rattle.std.specs.contracts.impls.GlobalAllocator.TheImpl.{ghosts}
use Rattle.std.proofs.option.Option.TheSendSync as option
use Rattle.iol_link.specs.declared.wire.Wire as wire
use Rattle.iol_app.proofs.core_data.Core.TheSendSync as inner
use Rattle.iol_book.proofs.book.Book.TheSendSync as book
use Rattle.iol_cell.specs.contracts.cell.ImageWriter as Writer
use Rattle.iol_cell.proofs.cell.ImageWriter.TheSendSync as writer
use Rattle.iol_port.proofs.counters.Counters.TheSendSync as counters
use Rattle.iol_port.specs.contracts.port_core.PortCore as Core
use Rattle.iol_port.specs.contracts.port_core.PortCore.TheInside as core
use Rattle.iol_port.specs.contracts.port.Port as Port
use Rattle.iol_port.specs.contracts.port.Port.TheInside as port

core_send : (A : RattleType) (h : alloc.Ghosts A.Denot) → IsSend A → Frees h h.dealloc_token
    → IsSend (Core.the_row A h)
core_send A h a f =
    view_send (core.the_row A h) _ _ _ _
    (recorded_send (core.the_field A h).row _ _ (core.the_type A h).to_one
    (struct_send (shape (core.the_type A h)) (
      inner.the_send,
      (
        book.the_send A h a f,
        (
          search (crosses, sendable) depth 20,
          (
            search (crosses, sendable) depth 20,
            (counters.the_field_send, (search (crosses, sendable) depth 20, tt)),
          ),
        ),
      ),
    )))

pub port_send : (W A : RattleType) (g : wire.Ghosts W.Denot) (h : alloc.Ghosts A.Denot)
    → IsSend W → IsSend A → IsSync A → Frees h h.dealloc_token → IsSend (Port.the_row W A g h)
port_send W A g h w a y f =
    view_send (port.the_row W A g h) _ _ _ _
    (recorded_send (port.the_field W A g h).row _ _ (port.the_type W A g h).to_one
    (struct_send (shape (port.the_type W A g h)) (
      core_send A h a f,
      (
        w,
        (
          search (crosses, sendable) depth 20,
          (
            search (crosses, sendable) depth 20,
            (
              search (crosses, sendable) depth 20,
              (
                option.the_field_send (Writer.the_row A h)
                    (search (writer.the_send, sendable) depth 20),
                tt,
              ),
            ),
          ),
        ),
      ),
    )))

-- at the heap, since `search` finds no allocator's ghost members in a row
pub heap_port_send : (W : RattleType) (g : wire.Ghosts W.Denot) → IsSend W
    → IsSend (Port.the_row W Heap.the_row g ghosts)
heap_port_send W g w = port_send W Heap.the_row g ghosts w send sync frees
