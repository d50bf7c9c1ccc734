-- The refusals, each a type of one value.
use Rattle.iol_event.specs.declared.faults.EventForm.{EventForm}

abbrev pub event_form : EventForm
event_form = record {}
