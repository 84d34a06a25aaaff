use Rattle.std.proofs.Common.{◌⊎◌, List, sym, ap, subst}
use Rattle.std.specs.Prelude.{slice_get, IsSomeAnd}
use Rattle.std.proofs.lemmas.Option.{slice_get_within}
use Rattle.relation_rows.specs.Answered.{pairs}
use Rattle.relation_rows.specs.declared.rows.Row.{Row}
use Rattle.source_rows.specs.Follows.{entry, IsKept, IsShort}
use Rattle.itpg_session.specs.PlainFollows.{plain_follows}
use Rattle.itpg_session.specs.Keeping.{IsEntryRight}
use Rattle.itpg_session.specs.Machine.{Standing, stood}
use Rattle.itpg_session.proofs.Planned.{alike_same}
use Rattle.itpg_session.proofs.Followed.{follows_alike}
use Rattle.itpg_session.proofs.NamedLists.{found_at}
use Rattle.itpg_session.proofs.NearKept.{kept_right, kept_plain, kept_or_short, keeps_or_lacks}
use Rattle.itpg_session.proofs.session.Session.keep_near.Goals as goal

pub returns-in_err-own-clause-alike : goal.returns-in_err-own-clause-alike
returns-in_err-own-clause-alike c = alike_same c.args.self.now

pub keep-requires-clause-there : goal.keep-requires-clause-there
keep-requires-clause-there c =
    let right = subst (λ (s : Standing). IsSomeAnd (slice_get s.follows c.args.place) (λ f. IsEntryRight s.machine.graph s.limit f.query (entry c.args.object.0 c.args.near.objects.items (pairs c.args.near.rows.value)))) (sym c.self.view_is) c.requires.right in
    let r = found_at (λ f. IsEntryRight c.self.inside.graph c.self.inside.limits f.query (entry c.args.object.0 c.args.near.objects.items (pairs c.args.near.rows.value))) c.self.inside.follows c.args.place right in
    slice_get_within c.self.inside.follows c.args.place r.0 r.2

pub returns-in_err-_unkept-clause-alike : goal.returns-in_err-_unkept-clause-alike
returns-in_err-_unkept-clause-alike c =
    follows_alike c.self.inside.graph c.self.inside.limits c.self.inside.plans c.self.inside.watches c.self.inside.pins.pins c.self.inside.follows c.args.self.now c.self.view_is c.keep.new.self (ap plain_follows c.in_err-_unkept.ensures.same)

pub invariant_of-self-2 : goal.invariant_of-self-2
invariant_of-self-2 c = record {
  kept = c.self.invariant.kept;
  pins_limit = c.self.invariant.pins_limit;
  follows_right = (
      let right = subst (λ (rows : List Row). IsSomeAnd (slice_get c.self.inside.follows c.args.place) (λ f. IsEntryRight c.self.inside.graph c.self.inside.limits f.query (entry c.args.object.0 c.args.near.objects.items (pairs rows)))) (sym c.in_ok-own.ensures.cases)
      (subst (λ (s : Standing). IsSomeAnd (slice_get s.follows c.args.place) (λ f. IsEntryRight s.machine.graph s.limit f.query (entry c.args.object.0 c.args.near.objects.items (pairs c.args.near.rows.value)))) (sym c.self.view_is) c.requires.right) in
      kept_right _ c.self.inside.graph c.self.inside.limits c.self.inside.follows c.keep.new.self c.args.place (entry c.args.object.0 c.args.near.objects.items (pairs c.in_ok-own.own.value))
      c.in_ok-_unkept._unkept c.in_ok-_unkept.ensures.kept c.in_ok-_unkept.ensures.back right c.self.invariant.follows_right);
}

pub returns-clause-alike : goal.returns-clause-alike
returns-clause-alike c =
    follows_alike c.self.inside.graph c.self.inside.limits c.self.inside.plans c.self.inside.watches c.self.inside.pins.pins c.self.inside.follows c.args.self.now c.self.view_is c.keep.new.self
    (kept_plain _ c.self.inside.graph c.self.inside.limits c.self.inside.follows c.keep.new.self c.args.place (entry c.args.object.0 c.args.near.objects.items (pairs c.in_ok-own.own.value))
    c.in_ok-_unkept._unkept c.in_ok-_unkept.ensures.kept c.in_ok-_unkept.ensures.back)

pub returns-clause-kept : goal.returns-clause-kept
returns-clause-kept c =
    let d = entry c.args.object.0 c.args.near.objects.items (pairs c.in_ok-own.own.value) in
    let right = subst (λ (rows : List Row). IsSomeAnd (slice_get c.self.inside.follows c.args.place) (λ f. IsEntryRight c.self.inside.graph c.self.inside.limits f.query (entry c.args.object.0 c.args.near.objects.items (pairs rows)))) (sym c.in_ok-own.ensures.cases)
    (subst (λ (s : Standing). IsSomeAnd (slice_get s.follows c.args.place) (λ f. IsEntryRight s.machine.graph s.limit f.query (entry c.args.object.0 c.args.near.objects.items (pairs c.args.near.rows.value)))) (sym c.self.view_is) c.requires.right) in
    keeps_or_lacks c.args.self.now (stood c.self.inside.graph c.self.inside.limits c.self.inside.plans c.self.inside.watches c.self.inside.pins.pins c.keep.new.self) c.args.place d
    (subst (λ (s : Standing). IsKept c.keep.new.self c.args.place c.args.object.0 ⊎ IsSomeAnd (slice_get s.follows c.args.place) (λ f. IsEntryRight s.machine.graph s.limit f.query d × IsShort s.follows d.objects d.rows)) c.self.view_is
    (kept_or_short (λ x. Unit {0}) c.self.inside.graph c.self.inside.limits c.self.inside.follows c.keep.new.self c.args.place d
    c.in_ok-_unkept._unkept c.in_ok-_unkept.ensures.kept c.in_ok-_unkept.ensures.short right))
