use Rattle.book.proofs.Propers.{draft_proper}
use Rattle.book.proofs.draft.Draft.open.Goals as goal

pub returns-clause-proper : goal.returns-clause-proper
returns-clause-proper c = draft_proper
