-- A line that is no call leaves the desk as it was.
use Rattle.std.specs.Prelude.{◌≡◌, IfErr, Result}
use Rattle.zimborae.specs.declared.fault.Fault.{Fault}
use Rattle.zimborae.specs.declared.fault.Fault.TheVariants.{Unread, Stopped}
use Rattle.zimborae.specs.declared.reply.Reply.{Reply}
use Rattle.zimborae.specs.Desk.{Standing}

abbrev pub KeptAt : Standing → Standing → Fault → Type 0
KeptAt before after (Unread why) = after ≡ before
KeptAt before after (Stopped stop) = Unit {0}

abbrev pub KeptUnlessRead : Result Reply Fault → Standing → Standing → Type 0
KeptUnlessRead r before after = IfErr r (KeptAt before after)
