-- What is decided of a query that is followed or given up, over what the session has.
use Rattle.std.proofs.Common.{◌≡◌, inl, inr, ℕ, List, [], ◌∷◌, ◌++◌, ◌≤◌, length, true, refl, ap, subst, ◌∙◌, arith}
use Rattle.itpg_base.specs.Words.{Word}
use Rattle.itpg_base.specs.Graphs.{Graph}
use Rattle.itpg_base.specs.declared.rule_code.RuleCode.{RuleCode}
use Rattle.itpg_base.specs.declared.rule_code.RuleCode.TheVariants.{Taken, Full, Unknown}
use Rattle.itpg_edit.specs.Rules.{FirstOf, NoneOf}
use Rattle.path_ast.specs.Terms.{QueryTerm}
use Rattle.plan_cache.specs.Nodes.{Table}
use Rattle.standing_queries.specs.Watches.{Watch}
use Rattle.itpg_pins.specs.Pins.{Held}
use Rattle.source_rows.specs.Follows.{Follow, most_follows, new_follow, IsFollowed as IsFollowedThere, without as without_there}
use Rattle.itpg_session.specs.PlainFollows.{PlainFollow, plain_follows, IsFollowed}
use Rattle.itpg_session.specs.Rules.{QueryBreaks, TickBreaks, FollowBreaks, UnfollowBreaks, NearBreaks, ask_rules, watch_rules, name_rules, tick_rules}
use Rattle.itpg_session.specs.Replies.{Silent, Refused}
use Rattle.itpg_session.specs.Machine.{Machine, Standing, stood, AddsFollow, DropsFollow, FollowsQuery, UnfollowsName, names_both, quiet_turn}
use Rattle.itpg_session.specs.Steps.{IsAlike, IsDecided}
use Rattle.itpg_session.proofs.Answering.{refusal}
use Rattle.itpg_session.proofs.FollowLists.{follows_append, follows_length, follows_without, there_followed, followed_there}
use Rattle.itpg_session.proofs.Planned.{alike_same}
use Rattle.itpg_session.proofs.Told.{silent, said, said_alike}

-- ---- the rules

-- where asking the query breaks a rule, following it breaks that first; and where no graph is begun, the names do
pub ask_first_follow : (g : Graph) (fs : List PlainFollow) (name : Word) (q : QueryTerm) (rule : RuleCode) → FirstOf (QueryBreaks g q) ask_rules rule → FirstOf (FollowBreaks g fs name q) watch_rules rule
ask_first_follow g fs name q rule (inl first) = inl first
ask_first_follow g fs name q rule (inr (begun, inl first)) = inr (begun, inl first)
ask_first_follow g fs name q rule (inr (begun, inr none)) = absurd none.1

pub tick_first_unfollow : (g : Graph) (fs : List PlainFollow) (name : Word) (rule : RuleCode) → FirstOf (TickBreaks g) tick_rules rule → FirstOf (UnfollowBreaks g fs name) name_rules rule
tick_first_unfollow g fs name rule (inl first) = inl first
tick_first_unfollow g fs name rule (inr none) = absurd none.1

pub tick_first_near : (g : Graph) (fs : List PlainFollow) (name id : Word) (rule : RuleCode) → FirstOf (TickBreaks g) tick_rules rule → FirstOf (NearBreaks g fs name id) name_rules rule
tick_first_near g fs name id rule (inl first) = inl first
tick_first_near g fs name id rule (inr none) = absurd none.1

module _ (g : Graph) (limit : ℕ) (table : Table) (ws : List Watch) (ps : List Held) (fs : List Follow) (now : Standing) (view : stood g limit table ws ps fs ≡ now) where
  -- follows of the same names and queries
  pub follows_alike : (xs : List Follow) → plain_follows xs ≡ plain_follows fs → IsAlike now (stood g limit table ws ps xs)
  follows_alike xs is =
      let same = alike_same (stood g limit table ws ps fs) in
      subst (λ (s : Standing). IsAlike s (stood g limit table ws ps xs)) view (record {
        machine = ap (λ (vs : List PlainFollow). let m : Machine = record (stood g limit table ws ps fs).machine { follows = vs } in m) is;
        limit = refl;
        watches = same.watches;
      })

  same_alike : (xs : List Follow) → xs ≡ fs → IsAlike now (stood g limit table ws ps xs)
  same_alike xs is = follows_alike xs (ap plain_follows is)

  free : (name : Word) → (IsFollowedThere fs name → ⊥) → IsFollowed (plain_follows fs) name → ⊥
  free name none there = none (followed_there fs name there)

  few : (most_follows ≤ length fs → ⊥) → most_follows ≤ length (plain_follows fs) → ⊥
  few none many = none (let e = follows_length fs in omega (arith, e, many))

  -- ---- a follow more

  module _ (name : Word) (q : QueryTerm) where
    module _ (both : names_both q ≡ true) where
      -- asking it breaks a rule
      pub ask_refused : (rule : RuleCode) → FirstOf (QueryBreaks g q) ask_rules rule → IsDecided (FollowsQuery now.machine name q) now now (Refused rule)
      ask_refused rule first =
          let m : Machine = now.machine in
          let own = subst (λ (s : Standing). FirstOf (QueryBreaks s.machine.graph q) ask_rules rule) view first in
          said now (Refused rule) (inr (both, refusal m (FollowBreaks m.graph m.follows name q) watch_rules (AddsFollow m name q) rule (ask_first_follow m.graph m.follows name q rule own) _ refl))

      module _ (asked : NoneOf (QueryBreaks g q) ask_rules) where
        pub follow_added : (xs : List Follow) → (IsFollowedThere fs name → ⊥) → (most_follows ≤ length fs → ⊥) → xs ≡ fs ++ new_follow name q ∷ [] → IsDecided (FollowsQuery now.machine name q) now (stood g limit table ws ps xs) Silent
        follow_added xs none room is =
            let m : Machine = (stood g limit table ws ps fs).machine in
            subst (λ (s : Standing). IsDecided (FollowsQuery s.machine name q) s (stood g limit table ws ps xs) Silent) view
            (silent (stood g limit table ws ps fs) (stood g limit table ws ps xs) refl (inr (
              both,
              inr (record {
                unbroken = (asked.0, (asked.1.0, (free name none, (few room, tt))));
                is = ap (λ (vs : List PlainFollow). quiet_turn (record m { follows = vs })) (ap plain_follows is ∙ follows_append fs (new_follow name q ∷ []));
              }),
            )))

        pub follow_taken : (xs : List Follow) → IsFollowedThere fs name → xs ≡ fs → IsDecided (FollowsQuery now.machine name q) now (stood g limit table ws ps xs) (Refused Taken)
        follow_taken xs there is =
            let first : FirstOf (FollowBreaks g (plain_follows fs) name q) watch_rules Taken = inr (asked.0, inr (asked.1.0, inl (there_followed fs name there, refl))) in
            let own = subst (λ (s : Standing). FirstOf (FollowBreaks s.machine.graph s.machine.follows name q) watch_rules Taken) view first in
            let m : Machine = now.machine in
            said_alike now (stood g limit table ws ps xs) (Refused Taken) (same_alike xs is) (inr (both, refusal m (FollowBreaks m.graph m.follows name q) watch_rules (AddsFollow m name q) Taken own _ refl))

        pub follows_full : (xs : List Follow) → (IsFollowedThere fs name → ⊥) → most_follows ≤ length fs → xs ≡ fs → IsDecided (FollowsQuery now.machine name q) now (stood g limit table ws ps xs) (Refused Full)
        follows_full xs none many is =
            let all : most_follows ≤ length (plain_follows fs) = (let e = follows_length fs in omega (arith, e, many)) in
            let first : FirstOf (FollowBreaks g (plain_follows fs) name q) watch_rules Full = inr (asked.0, inr (asked.1.0, inr (free name none, inl (all, refl)))) in
            let own = subst (λ (s : Standing). FirstOf (FollowBreaks s.machine.graph s.machine.follows name q) watch_rules Full) view first in
            let m : Machine = now.machine in
            said_alike now (stood g limit table ws ps xs) (Refused Full) (same_alike xs is) (inr (both, refusal m (FollowBreaks m.graph m.follows name q) watch_rules (AddsFollow m name q) Full own _ refl))

  -- ---- a follow less

  module _ (name : Word) (begun : NoneOf (TickBreaks g) tick_rules) where
    pub follow_dropped : (xs : List Follow) → ((IsFollowedThere fs name → ⊥) → ⊥) → xs ≡ without_there name fs → IsDecided (UnfollowsName now.machine name) now (stood g limit table ws ps xs) Silent
    follow_dropped xs known is =
        let m : Machine = (stood g limit table ws ps fs).machine in
        subst (λ (s : Standing). IsDecided (UnfollowsName s.machine name) s (stood g limit table ws ps xs) Silent) view
        (silent (stood g limit table ws ps fs) (stood g limit table ws ps xs) refl (inr (record {
          unbroken = (begun.0, ((λ no. known (λ there. no (there_followed fs name there))), tt));
          is = ap (λ (vs : List PlainFollow). quiet_turn (record m { follows = vs })) (ap plain_follows is ∙ follows_without name fs);
        })))

    pub follow_unknown : (xs : List Follow) → (IsFollowedThere fs name → ⊥) → xs ≡ fs → IsDecided (UnfollowsName now.machine name) now (stood g limit table ws ps xs) (Refused Unknown)
    follow_unknown xs none is =
        let first : FirstOf (UnfollowBreaks g (plain_follows fs) name) name_rules Unknown = inr (begun.0, inl (free name none, refl)) in
        let own = subst (λ (s : Standing). FirstOf (UnfollowBreaks s.machine.graph s.machine.follows name) name_rules Unknown) view first in
        let m : Machine = now.machine in
        said_alike now (stood g limit table ws ps xs) (Refused Unknown) (same_alike xs is) (refusal m (UnfollowBreaks m.graph m.follows name) name_rules (DropsFollow m name) Unknown own _ refl)
