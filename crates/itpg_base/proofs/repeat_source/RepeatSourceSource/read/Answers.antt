use Rattle.std.proofs.Common.{◌≡◌, ◌+◌, ◌≤◌, ◌<◌, ◌++◌, length, take, drop, ap, sym, refl, ◌∙◌, rules, arith}
use Rattle.std.proofs.lemmas.Grind.{common_steps}
use Rattle.itpg_base.specs.Devices.{repeated}
use Rattle.itpg_base.proofs.Pieces.{repeated_read, repeated_end, repeated_none}
use Rattle.itpg_base.proofs.repeat_source.RepeatSourceSource.read.Goals as goal

pub returns-then-self-eq0-clause-bytes : goal.returns-then-self-eq0-clause-bytes
returns-then-self-eq0-clause-bytes c =
    (refl, λ _ _. repeated_none c.self.inside.piece.items _ c.self.inside.times c.self.inside.at c.self.view_is (search rules))

pub returns-else-self-len-clause-bytes : goal.returns-else-self-len-clause-bytes
returns-else-self-len-clause-bytes c =
    let s = c.self.inside in
    let k = c.copy_front-count.result in
    let some : 0 < c.self.inside.times = grind (arith, common_steps) in
    let fits : c.self.inside.at + c.copy_front-count.result ≤ length c.self.inside.piece.items = grind (arith, common_steps) in
    let is : take c.copy_front-count.result c.copy_front-count.new.buf ≡ take c.copy_front-count.result (drop c.self.inside.at c.self.inside.piece.items) = grind (arith, common_steps) in
    let got : 0 < c.copy_front-count.result = grind (arith, common_steps) in
    (repeated_read s.piece.items (take k c.copy_front-count.new.buf) _ s.times s.at k c.self.view_is some fits is ∙ ap (λ a. take k c.copy_front-count.new.buf ++ drop a (repeated s.times s.piece.items)) (sym c.copy_front-count.ensures.moved), λ none _. absurd (omega arith))

pub returns-then-self-len-clause-bytes : goal.returns-then-self-len-clause-bytes
returns-then-self-len-clause-bytes c =
    let s = c.self.inside in
    let k = c.copy_front-count.result in
    let some : 0 < c.self.inside.times = grind (arith, common_steps) in
    let fits : c.self.inside.at + c.copy_front-count.result ≤ length c.self.inside.piece.items = grind (arith, common_steps) in
    let is : take c.copy_front-count.result c.copy_front-count.new.buf ≡ take c.copy_front-count.result (drop c.self.inside.at c.self.inside.piece.items) = grind (arith, common_steps) in
    let got : 0 < c.copy_front-count.result = grind (arith, common_steps) in
    let end : c.self.inside.at + c.copy_front-count.result ≡ length c.self.inside.piece.items = grind (arith, common_steps) in
    (repeated_read s.piece.items (take k c.copy_front-count.new.buf) _ s.times s.at k c.self.view_is some fits is ∙ ap (λ t. take k c.copy_front-count.new.buf ++ t) (ap (λ a. drop a (repeated s.times s.piece.items)) end ∙ repeated_end s.piece.items s.times some), λ none _. absurd (omega arith))
