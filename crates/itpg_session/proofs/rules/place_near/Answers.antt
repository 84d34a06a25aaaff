use Rattle.std.proofs.Common.{◌≡◌, inl, inr, refl, ⊎_elim}
use Rattle.itpg_session.proofs.NamedLists.{found_at}
use Rattle.itpg_session.proofs.FollowLists.{there_followed, followed_there}
use Rattle.itpg_session.proofs.rules.place_near.Goals as goal

pub returns-clause-unbroken : goal.returns-clause-unbroken
returns-clause-unbroken c =
    let h = found_at (λ f. f.name ≡ c.args.name.now) c.args.follows.now c.in-Some-find.place c.in-Some-find.ensures.some in
    ((c.in_default.ensures.none refl).0, ((λ no. ⊎_elim (λ none. none (there_followed c.args.follows.now c.args.name.now (h.0, h.1, h.3))) (λ none. none _ c.in-Some-find-2.ensures.found) no), tt))

pub returns-in_default-find-clause-broken : goal.returns-in_default-find-clause-broken
returns-in_default-find-clause-broken c = inr ((c.in_default.ensures.none refl).0, inl (inl (λ there. c.in_default-find.ensures.none.0 refl (followed_there c.args.follows.now c.args.name.now there)), refl))
