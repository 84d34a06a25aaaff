use Rattle.std.proofs.Common.{List, None, refl, sym, ◌∙◌, subst, true≢false}
use Rattle.script_lex.specs.Lines.{Placed, AreTokens}
use Rattle.edit_reader.proofs.Taking.{none_left, reached_end}
use Rattle.edit_reader.proofs.parts.Parts.end.Goals as goal

pub returns-then-is_end-clause-taken : goal.returns-then-is_end-clause-taken
returns-then-is_end-clause-taken c = λ tokens are. none_left c.args.self.line.now c.args.self.at None tokens (c.is_end.ensures.0 c.if-is_end.true) are

pub returns-then-is_end-clause-whole : goal.returns-then-is_end-clause-whole
returns-then-is_end-clause-whole c = reached_end c.args.self.line.now c.args.self.at c.args.self.reached (c.is_end.ensures.0 c.if-is_end.true)

pub returns-else-is_end-clause-taken : goal.returns-else-is_end-clause-taken
returns-else-is_end-clause-taken c = λ tokens are. (refl, λ none. true≢false (sym (sym c.if-is_end.false ∙ c.is_end.ensures.1 (subst (λ (ts : List Placed). AreTokens c.args.self.line.now c.args.self.at ts None) none are))))
