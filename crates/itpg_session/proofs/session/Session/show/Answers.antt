use Rattle.std.proofs.Common.{◌≡◌, Some, refl, inr, sym, subst}
use Rattle.std.proofs.lemmas.Result.{err_from_is_err_and}
use Rattle.std.specs.Prelude.{slice_get, option_map, IsSomeAnd}
use Rattle.itpg_edit.specs.Rules.{NoneOf, FirstOf}
use Rattle.relation_rows.specs.Answered.{answered}
use Rattle.itpg_session.specs.PlainWatches.{PlainWatch}
use Rattle.itpg_session.specs.Rules.{NameBreaks, name_rules}
use Rattle.itpg_session.specs.Replies.{Refused, Shown}
use Rattle.itpg_session.specs.Keeping.{IsStale, KeepsFound}
use Rattle.itpg_session.specs.Machine.{Machine, Standing, ShowsWatch}
use Rattle.itpg_session.proofs.Answering.{refusal}
use Rattle.itpg_session.proofs.NamedLists.{found_at}
use Rattle.itpg_session.proofs.Watching.{of_watch}
use Rattle.itpg_session.proofs.Told.{said, said_alike}
use Rattle.itpg_session.proofs.WorkedFor.{none_for, for_all, named_stale}
use Rattle.itpg_session.proofs.session.Session.show.Goals as goal

pub returns-in_err-find_at-in-Ok-clause-decides : goal.returns-in_err-find_at-in-Ok-clause-decides
returns-in_err-find_at-in-Ok-clause-decides c =
    let unbroken = subst (λ (s : Standing). NoneOf (NameBreaks s.machine.graph s.machine.watches c.args.name.now) name_rules) c.self.view_is c.in-Ok.ensures.unbroken in
    let p = err_from_is_err_and c.from_residual.result c.from_residual.ensures.1 in
    rw (p.1) (c.in_err-find_at-in-Ok.ensures.alike, (unbroken, λ fresh. c.requires (unbroken, fresh)))

pub returns-in_ok-find_at-in-Ok-clause-decides : goal.returns-in_ok-find_at-in-Ok-clause-decides
returns-in_ok-find_at-in-Ok-clause-decides c =
    let ws = c.args.self.now.machine.watches in
    let found = option_map answered c.in_ok-find_at-in-Ok.field-0 in
    let shown = found_at _ ws c.in-Ok.place c.in_ok-find_at-in-Ok.ensures.found in
    let named = subst (λ (s : Standing). IsSomeAnd (slice_get s.machine.watches c.in-Ok.place) (λ w. w.name ≡ c.args.name.now)) c.self.view_is c.in-Ok.ensures.place in
    let unbroken = subst (λ (s : Standing). NoneOf (NameBreaks s.machine.graph s.machine.watches c.args.name.now) name_rules) c.self.view_is c.in-Ok.ensures.unbroken in
    said_alike c.args.self.now c.find_at.new.self (Shown c.in-Ok.place found) c.in_ok-find_at-in-Ok.ensures.alike (inr (record {
      unbroken = unbroken;
      place = c.in-Ok.place;
      watch = shown.0;
      at = shown.2;
      named = of_watch ws c.in-Ok.place shown.0 (λ (w : PlainWatch). w.name ≡ c.args.name.now) shown.2 named;
      found = found;
      finds = shown.3;
      is = refl;
    }))

pub returns-in-Err-clause-decides : goal.returns-in-Err-clause-decides
returns-in-Err-clause-decides c =
    let m = c.args.self.now.machine in
    let first = subst (λ (s : Standing). FirstOf (NameBreaks s.machine.graph s.machine.watches c.args.name.now) name_rules c.in-Err.rule) c.self.view_is c.in-Err.ensures.broken in
    said c.args.self.now (Refused c.in-Err.rule) (refusal m (NameBreaks m.graph m.watches c.args.name.now) name_rules (ShowsWatch c.args.self.now.limit m c.args.name.now) c.in-Err.rule first _ refl)

pub returns-in-Err-clause-table : goal.returns-in-Err-clause-table
returns-in-Err-clause-table c = none_for (λ w. IsStale c.args.self.now.machine.watches w × (w.name ≡ c.args.name.now)) c.args.self.now.table

pub returns-in_ok-find_at-in-Ok-clause-keeps : goal.returns-in_ok-find_at-in-Ok-clause-keeps
returns-in_ok-find_at-in-Ok-clause-keeps c =
    let found = option_map answered c.in_ok-find_at-in-Ok.field-0 in
    subst (λ (m : Machine). IsSomeAnd (slice_get m.watches c.in-Ok.place) (λ w. KeepsFound m.graph c.find_at.new.self.table w found)) (sym c.in_ok-find_at-in-Ok.ensures.alike.machine) c.in_ok-find_at-in-Ok.ensures.keeps

pub returns-in_ok-find_at-in-Ok-clause-table : goal.returns-in_ok-find_at-in-Ok-clause-table
returns-in_ok-find_at-in-Ok-clause-table c =
    let ws = c.args.self.now.machine.watches in
    let name = c.args.name.now in
    let place = c.in-Ok.place in
    let named = subst (λ (s : Standing). IsSomeAnd (slice_get s.machine.watches place) (λ w. w.name ≡ name)) c.self.view_is c.in-Ok.ensures.place in
    let unbroken = subst (λ (s : Standing). NoneOf (NameBreaks s.machine.graph s.machine.watches name) name_rules) c.self.view_is c.in-Ok.ensures.unbroken in
    for_all (λ w. slice_get ws place ≡ Some w) (λ w. IsStale ws w × (w.name ≡ name)) c.args.self.now.table c.find_at.new.self.table
    (named_stale ws name place (λ fresh. c.requires (unbroken, fresh)) named) c.in_ok-find_at-in-Ok.ensures.worked

pub returns-in_err-find_at-in-Ok-clause-table : goal.returns-in_err-find_at-in-Ok-clause-table
returns-in_err-find_at-in-Ok-clause-table c =
    let ws = c.args.self.now.machine.watches in
    let name = c.args.name.now in
    let place = c.in-Ok.place in
    let named = subst (λ (s : Standing). IsSomeAnd (slice_get s.machine.watches place) (λ w. w.name ≡ name)) c.self.view_is c.in-Ok.ensures.place in
    let unbroken = subst (λ (s : Standing). NoneOf (NameBreaks s.machine.graph s.machine.watches name) name_rules) c.self.view_is c.in-Ok.ensures.unbroken in
    for_all (λ w. slice_get ws place ≡ Some w) (λ w. IsStale ws w × (w.name ≡ name)) c.args.self.now.table c.find_at.new.self.table
    (named_stale ws name place (λ fresh. c.requires (unbroken, fresh)) named) c.in_err-find_at-in-Ok.ensures.worked
