use Rattle.team_files.proofs.CodeTexts.{code_is_text}
use Rattle.team_files.proofs.code.Code.text.Goals as goal

pub unreachable-requires : goal.unreachable-requires
unreachable-requires c = c.in-Err.ensures.cases.0 (code_is_text c.self.inside.characters c.self.invariant)
