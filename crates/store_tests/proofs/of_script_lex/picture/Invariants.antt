use Rattle.std.proofs.Common.{◌≤◌, length}
use Rattle.store_tests.proofs.of_script_lex.picture.Given as goal

abbrev pub invariant-loop : goal.invariant-loop
invariant-loop l = l.at ≤ length l.line
