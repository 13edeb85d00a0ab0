use Rattle.std.proofs.Common.{length}
use Rattle.search.proofs.record.+standing.Given as goal

abbrev pub decreases-standing : goal.decreases-standing
decreases-standing l = length l.ms.now
