-- Both ends after a wake that was answered.
use Rattle.iol_app.proofs.core_data.Core.take_wake.Goals as goal

pub returns-in-Some-clause-stands : goal.returns-in-Some-clause-stands
returns-in-Some-clause-stands c =
    rw (← c.self.view_is) (rw c.configuration.ensures at c.receives_wake.ensures.stands)
