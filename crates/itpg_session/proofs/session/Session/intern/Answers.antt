use Rattle.std.proofs.Common.{refl, subst}
use Rattle.path_ast.specs.Terms.{path_term}
use Rattle.path_ast.specs.Sizes.{path_size}
use Rattle.itpg_session.specs.Machine.{Standing}
use Rattle.itpg_session.specs.Steps.{IsAlike}
use Rattle.itpg_session.specs.contracts.session.Session.{the_view}
use Rattle.itpg_session.proofs.Plain.{replanned_same}
use Rattle.itpg_session.proofs.Planned.{kept_grown}
use Rattle.itpg_session.proofs.session.Session.intern.Goals as goal

pub invariant_of-self : goal.invariant_of-self
invariant_of-self c = record {
  kept = (kept_grown c.self.inside.graph c.self.inside.limits (path_size (path_term c.args.query.now.path)) c.self.inside.plans c.intern.new.self c.self.inside.watches
      c.intern.ensures.grows c.intern.ensures.kept c.self.invariant.kept);
  pins_limit = c.self.invariant.pins_limit;
  follows_right = c.self.invariant.follows_right;
}

pub returns-clause-alike : goal.returns-clause-alike
returns-clause-alike c =
    subst (λ (s : Standing). IsAlike s (the_view (record { graph = c.self.inside.graph; watches = c.self.inside.watches; plans = c.intern.new.self; pins = c.self.inside.pins; follows = c.self.inside.follows; limits = c.self.inside.limits; alloc = c.self.inside.alloc })))
    c.self.view_is (record { machine = refl; limit = refl; watches = replanned_same c.self.inside.watches })
