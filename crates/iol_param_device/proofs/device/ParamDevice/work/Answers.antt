-- The clauses of `ParamDevice::work` that the search can't prove.
use Rattle.std.proofs.Common.{◌∙◌, ◌&&◌, ap}
use Rattle.std.specs.Prelude.{not}
use Rattle.iol_event.specs.Memory.{is_full}
use Rattle.iol_far.specs.Isdu.{handed_request}
use Rattle.iol_params.specs.Image.{lasting_of}
use Rattle.iol_param_device.specs.Device.{Both, both, works_on_read}
use Rattle.iol_param_device.proofs.Saving.{saves_lasting, reported_lasting}
use Rattle.iol_param_device.proofs.device.ParamDevice.work.Goals as goal

pub returns-clause-saves : goal.returns-clause-saves
returns-clause-saves g c =
    let old = c.args.self.now in
    let mid = c.answer_request.new.self in
    let new = c.tell_event.new.self in
    let far = mid.device.far in
    let reported = mid.manager.state.event_due && not (is_full far.events) in
    let lasting = ap (λ (b : Both). lasting_of b.state) c.tell_event.ensures.works
    ∙ reported_lasting reported (both far mid.manager.state) in
    saves_lasting g.S.Slots.memory g.S.Slots.store_gives
    (works_on_read (handed_request old.device.far.isdu)) old.slots
    (record { manager = mid.manager; slots = mid.slots })
    (record { manager = new.manager; slots = new.slots }) c.answer_request.ensures.saves
    c.tell_event.ensures.slots c.tell_event.ensures.table lasting
