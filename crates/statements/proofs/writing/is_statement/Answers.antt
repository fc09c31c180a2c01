-- `is_statement`: the item's first byte tells.
use Rattle.statements.proofs.WritePieces.{statement_here, other_here}
use Rattle.statements.proofs.writing.is_statement.Goals as goal

pub returns-in-Statement : goal.returns-in-Statement
returns-in-Statement c = search statement_here

pub returns-in_default : goal.returns-in_default
returns-in_default c = search other_here
