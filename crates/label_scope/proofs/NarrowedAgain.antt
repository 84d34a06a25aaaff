-- To narrow scopes again changes nothing, so a path has one footprint and one list of members before and after.
use Rattle.std.proofs.Common.{◌≡◌, ◌↔◌, Bool, true, false, refl, sym, ap, ◌∙◌}
use Rattle.std.specs.Prelude.{IsTrue}
use Rattle.path_ast.specs.Terms.{PathTerm, OfTest, Forward, Backward, Next, Previous, Sequence, Choice, Repetition}
use Rattle.path_ast.specs.Meaning.{keeps_object}
use Rattle.label_scope.specs.declared.scope.Scope.{Scope}
use Rattle.label_scope.specs.declared.scope.Scope.TheVariants.{All, These}
use Rattle.label_scope.specs.Scopes.{met, source_scope, target_scope}
use Rattle.label_scope.specs.Narrowing.{Scopes, both_where, narrowed}
use Rattle.label_scope.specs.Members.{worked, members_between}
use Rattle.label_scope.specs.Footprints.{footprint, footprint_between}

-- what was met with a scope stays as it is when it is met with that scope again
met_same : (a s : Scope) → met (met a s) s ≡ met a s
met_same All All = refl
met_same All (These names) = refl
met_same (These names) s = refl

met_again : (a s b : Scope) → met (met (met a s) b) s ≡ met (met a s) b
met_again All All All = refl
met_again All All (These others) = refl
met_again All (These names) b = refl
met_again (These names) s b = refl

-- and so do two scopes that were met with each other
met_both : (a b : Scope) → met (met a b) (met b a) ≡ met a b
met_both All All = refl
met_both All (These others) = refl
met_both (These names) b = refl

both_again : (k : Bool) (a b s t : Scope) → let ends : Scopes = both_where k (met a s) (met b t) in both_where k (met ends.sources s) (met ends.targets t) ≡ ends
both_again false a b s t =
    let source = met_same a s in
    let target = met_same b t in
    cc
both_again true a b s t =
    let x = met a s in
    let y = met b t in
    let source : met (met x y) s ≡ met x y = met_again a s y in
    let target : met (met y x) t ≡ met y x = met_again b t x in
    rw (source, target, met_both x y, met_both y x) refl

pub narrowed_again : (p : PathTerm) (a b : Scope) → narrowed p (narrowed p a b).sources (narrowed p a b).targets ≡ narrowed p a b
narrowed_again p a b = both_again (keeps_object p) a b (source_scope p) (target_scope p)

all_where : (k : Bool) (a b : Scope) → IsTrue k → ((both_where k a b).sources ≡ All) ↔ ((both_where k a b).targets ≡ All)
all_where false a b keeps = let none : ⊥ = cc in absurd none
all_where true All All keeps = (λ e. e, λ e. e)
all_where true All (These others) keeps = (λ e. e, λ e. e)
all_where true (These names) All keeps = (λ e. e, λ e. e)
all_where true (These names) (These others) keeps = (λ e. let none : ⊥ = cc in absurd none, λ e. let none : ⊥ = cc in absurd none)

-- where a path keeps its object, both narrowed scopes are `All` or neither
pub all_or_neither : (p : PathTerm) (a b : Scope) → IsTrue (keeps_object p) → ((narrowed p a b).sources ≡ All) ↔ ((narrowed p a b).targets ≡ All)
all_or_neither p a b keeps = all_where (keeps_object p) (met a (source_scope p)) (met b (target_scope p)) keeps

pub footprint_narrowed : (p : PathTerm) (a b : Scope) → footprint p (narrowed p a b).sources (narrowed p a b).targets ≡ footprint p a b
footprint_narrowed p a b = ap (λ (ends : Scopes). footprint_between p ends.sources ends.targets) (narrowed_again p a b)

-- the worked members are those between the narrowed scopes
pub members_are : (p : PathTerm) (a b : Scope) → worked p a b ≡ members_between p (narrowed p a b).sources (narrowed p a b).targets
members_are (OfTest c) a b = refl
members_are Forward a b = refl
members_are Backward a b = refl
members_are Next a b = refl
members_are Previous a b = refl
members_are (Sequence p q) a b = refl
members_are (Choice p q) a b = refl
members_are (Repetition r n m) a b = refl

pub worked_narrowed : (p : PathTerm) (a b : Scope) → worked p (narrowed p a b).sources (narrowed p a b).targets ≡ worked p a b
worked_narrowed p a b =
    let ends = narrowed p a b in
    members_are p ends.sources ends.targets ∙ ap (λ (own : Scopes). members_between p own.sources own.targets) (narrowed_again p a b) ∙ sym (members_are p a b)
