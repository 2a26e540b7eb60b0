-- How an arm stands to a subject, as the code tells it.
use Rattle.typing.specs.Kinds.{Taking, takes, passes, may_take}
use Rattle.session.specs.declared.checking.kinds.Taking.{Taking as Told}
use Rattle.session.specs.declared.checking.kinds.Taking.TheVariants.{Takes, Passes, MayTake}

abbrev pub taking_of : Told → Taking
taking_of Takes = takes
taking_of Passes = passes
taking_of (MayTake t) = may_take t
