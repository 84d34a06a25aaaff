-- A line on follows: from a good machine it has one turn at most, and some turn where nothing forbids it; and its turns leave a good
-- machine.
use Rattle.std.proofs.Common.{◌≡◌, ◌⊎◌, inl, inr, ⊎_elim, ℕ, length, List, [], ◌∷◌, Bool, true, false, Some, refl, sym, ap, ◌∙◌, subst}
use Rattle.std.specs.Prelude.{slice_get, IsTrue}
use Rattle.itpg_base.specs.Words.{Word}
use Rattle.itpg_base.specs.Decided.{Decided}
use Rattle.itpg_base.specs.Graphs.{Graph, Named}
use Rattle.itpg_base.specs.declared.rule_code.RuleCode.{RuleCode}
use Rattle.itpg_base.specs.declared.rule_code.RuleCode.TheVariants.{NoGraph, Taken, Unknown, Full, GraphName, Again, Kind, Backwards, Horizon, Ends, Absent, Held, Incident, Narrow}
use Rattle.itpg_base.specs.declared.text_code.TextCode.TheVariants.{Names}
use Rattle.itpg_base.proofs.Objects.{same_some}
use Rattle.itpg_base.proofs.Searches.{at_most}
use Rattle.itpg_edit.specs.Facts.{IsUnknown}
use Rattle.itpg_edit.specs.Rules.{NoneOf}
use Rattle.itpg_edit.proofs.Checked.{named_stands}
use Rattle.itpg_edit.proofs.Deciding.{decide_taken}
use Rattle.edit_reader.specs.Names.{is_word}
use Rattle.path_ast.specs.Terms.{QueryTerm}
use Rattle.source_rows.specs.Follows.{most_follows}
use Rattle.standing_queries.proofs.Named.{place_among, one_place, more_ordered}
use Rattle.itpg_session.specs.PlainFollows.{PlainFollow, IsFollowed, followed}
use Rattle.itpg_session.specs.Rules.{FollowBreaks, UnfollowBreaks, NearBreaks, watch_rules, name_rules}
use Rattle.itpg_session.specs.Replies.{Reply, Silent, Bad, Refused, Wide, Rows, Counted, Shown, OfPin, PerWatch, IsFoundNear}
use Rattle.itpg_session.specs.Machine.{Machine, IsGood, Turn, Refuses, AddsFollow, DropsFollow, TellsNear, FollowsQuery, names_both, after, told}
use Rattle.itpg_session.proofs.Decided.{decide_same, decide_begun, decide_ask, decide_not}
use Rattle.itpg_session.proofs.NamedLists.{left_among, left_ordered}
use Rattle.itpg_session.proofs.Watching.{each_added}
use Rattle.itpg_session.proofs.Nearby.{NearLaws, one_found_near, some_found_near}

-- ---- which rule is broken first

pub decide_followed : (fs : List PlainFollow) (name : Word) → Decided (IsFollowed fs name)
decide_followed [] name = inr (λ h. absurd h.1)
decide_followed (f ∷ fs) name = elim (decide_same f.name name) [
  | inl e ↦ inl (f, inl refl, e)
  | inr n ↦ elim (decide_followed fs name) [
    | inl h ↦ inl (h.0, inr h.1, h.2)
    | inr k ↦ inr (λ h. ⊎_elim (λ e. n (ap (λ (v : PlainFollow). v.name) e ∙ h.2)) (λ a. k (h.0, a, h.2)) h.1)
  ]
]

pub decide_follow : (g : Graph) (fs : List PlainFollow) (name : Word) (q : QueryTerm) (rule : RuleCode) → Decided (FollowBreaks g fs name q rule)
decide_follow g fs name q NoGraph = decide_ask g q NoGraph
decide_follow g fs name q GraphName = decide_ask g q GraphName
decide_follow g fs name q Taken = decide_followed fs name
decide_follow g fs name q Full = at_most most_follows (length fs)
decide_follow g fs name q Again = inr (λ no. no)
decide_follow g fs name q Unknown = inr (λ no. no)
decide_follow g fs name q Kind = inr (λ no. no)
decide_follow g fs name q Backwards = inr (λ no. no)
decide_follow g fs name q Horizon = inr (λ no. no)
decide_follow g fs name q Ends = inr (λ no. no)
decide_follow g fs name q Absent = inr (λ no. no)
decide_follow g fs name q Held = inr (λ no. no)
decide_follow g fs name q Incident = inr (λ no. no)
decide_follow g fs name q Narrow = inr (λ no. no)

pub decide_unfollow : (g : Graph) (fs : List PlainFollow) (name : Word) (rule : RuleCode) → Decided (UnfollowBreaks g fs name rule)
decide_unfollow g fs name NoGraph = decide_begun g.begun
decide_unfollow g fs name Unknown = decide_not (decide_followed fs name)
decide_unfollow g fs name _ = inr (λ no. no)

-- no follow has the name, or no object has its
decide_either : {P Q : Type 0} → Decided P → Decided Q → Decided (P ⊎ Q)
decide_either (inl p) q = inl (inl p)
decide_either (inr n) (inl q) = inl (inr q)
decide_either (inr n) (inr k) = inr (λ h. ⊎_elim n k h)

decide_unknown : (g : Graph) (id : Word) → Decided (IsUnknown g id)
decide_unknown g id = elim (decide_taken g id) [
  | inl h ↦ inr (λ none. none h.0 h.1)
  | inr n ↦ inl (λ o h. n (o, h))
]

pub decide_near : (g : Graph) (fs : List PlainFollow) (name id : Word) (rule : RuleCode) → Decided (NearBreaks g fs name id rule)
decide_near g fs name id NoGraph = decide_begun g.begun
decide_near g fs name id Unknown = decide_either (decide_not (decide_followed fs name)) (decide_unknown g id)
decide_near g fs name id _ = inr (λ no. no)

-- where neither is so, a follow and an object have them
some_follow : (fs : List PlainFollow) (name : Word) → ((IsFollowed fs name → ⊥) → ⊥) → IsFollowed fs name
some_follow fs name not_none = elim (decide_followed fs name) [ inl h ↦ h | inr n ↦ absurd (not_none n) ]

some_object : (g : Graph) (id : Word) → (IsUnknown g id → ⊥) → (o : ℕ) × Named g o id
some_object g id known = elim (decide_taken g id) [ inl h ↦ h | inr n ↦ absurd (known (λ o h. n (o, h))) ]

-- ---- what is found near an object leaves the machine

pub near_after : (limit : ℕ) (m : Machine) (q : QueryTerm) (o : ℕ) (reply : Reply) → IsFoundNear m.graph limit q o reply → m ≡ after m reply
near_after limit m q o Silent a = absurd a
near_after limit m q o (Bad code) a = absurd a
near_after limit m q o (Refused rule) a = absurd a
near_after limit m q o Wide a = refl
near_after limit m q o (Rows answer) a = refl
near_after limit m q o (Counted counts) a = absurd a
near_after limit m q o (Shown place found) a = absurd a
near_after limit m q o (OfPin place answer) a = absurd a
near_after limit m q o (PerWatch found) a = absurd a

module _ (limit : ℕ) (m : Machine) (good : IsGood m) (name : Word) where
  pub one_near : NearLaws → (id : Word) (x y : Turn) → TellsNear limit m name id x → TellsNear limit m name id y → x ≡ y
  one_near laws id x y a b =
      let place : a.place ≡ b.place = one_place (λ (f : PlainFollow). f.name) m.follows a.place b.place a.follow b.follow good.follows a.at b.at (a.named ∙ sym b.named) in
      let at : slice_get m.follows b.place ≡ Some a.follow = subst (λ (i : ℕ). slice_get m.follows i ≡ Some a.follow) place a.at in
      let follow : a.follow ≡ b.follow = same_some a.follow b.follow (slice_get m.follows b.place) at b.at in
      let object : a.object ≡ b.object = good.graph.names_differ a.object b.object id a.is_object b.is_object in
      let finds : IsFoundNear m.graph limit (b.follow).query b.object a.reply =
      subst (λ (o : ℕ). IsFoundNear m.graph limit (b.follow).query o a.reply) object (subst (λ (f : PlainFollow). IsFoundNear m.graph limit f.query a.object a.reply) follow a.finds) in
      a.is ∙ ap (λ (r : Reply). told m r) (one_found_near laws m.graph limit (b.follow).query b.object a.reply b.reply finds b.finds) ∙ sym b.is

  pub some_near : NearLaws → (id : Word) → NoneOf (NearBreaks m.graph m.follows name id) name_rules → (t : Turn) × TellsNear limit m name id t
  some_near laws id none =
      let f = some_follow m.follows name (λ no. none.1.0 (inl no)) in
      let o = some_object m.graph id (λ no. none.1.0 (inr no)) in
      let place = place_among m.follows f.0 f.1 in
      let r = some_found_near laws m.graph limit (f.0).query o.0 good.graph (named_stands m.graph o.0 id o.1) in
      (told m r.0, record { unbroken = none; place = place.0; follow = f.0; at = place.1; named = f.2; object = o.0; is_object = o.1; reply = r.0; finds = r.1; is = refl })

  pub good_followed : IsTrue (is_word name) → (q : QueryTerm) (t : Turn) → AddsFollow m name q t → IsGood t.next
  good_followed word q t a =
      let free : IsFollowed m.follows name → ⊥ = a.unbroken.1.1.0 in
      subst (λ (u : Turn). IsGood u.next) (sym a.is) (record {
        graph = good.graph;
        differ = good.differ;
        asks = good.asks;
        kinds = good.kinds;
        pins = good.pins;
        follows = more_ordered (λ (f : PlainFollow). f.name) m.follows (followed name q) good.follows (λ f a e. free (f, a, e));
        words = record { objects = good.words.objects; watches = good.words.watches; pins = good.words.pins; follows = each_added (λ (f : PlainFollow). IsTrue (is_word f.name)) m.follows (followed name q) good.words.follows word };
      })

  pub good_unfollowed : (t : Turn) → DropsFollow m name t → IsGood t.next
  good_unfollowed t a = subst (λ (u : Turn). IsGood u.next) (sym a.is) (record {
    graph = good.graph;
    differ = good.differ;
    asks = good.asks;
    kinds = good.kinds;
    pins = good.pins;
    follows = left_ordered (λ (f : PlainFollow). f.name) name m.follows good.follows;
    words = record { objects = good.words.objects; watches = good.words.watches; pins = good.words.pins; follows = λ f h. good.words.follows f (left_among (λ (f : PlainFollow). f.name) name m.follows f h) };
  })

-- ---- a query that is to be followed, by the turns that its rules leave

module _ (m : Machine) (name : Word) where
  pub one_follow_query : ((q : QueryTerm) (x y : Turn) → Refuses m (FollowBreaks m.graph m.follows name q) watch_rules x ⊎ AddsFollow m name q x → Refuses m (FollowBreaks m.graph m.follows name q) watch_rules y ⊎ AddsFollow m name q y → x ≡ y)
      → (q : QueryTerm) (x y : Turn) → FollowsQuery m name q x → FollowsQuery m name q y → x ≡ y
  one_follow_query one q x y (inl a) (inl b) = a.1 ∙ sym b.1
  one_follow_query one q x y (inl a) (inr b) = let e = a.0 in let k = b.0 in let no : ⊥ = cc in absurd no
  one_follow_query one q x y (inr a) (inl b) = let e = a.0 in let k = b.0 in let no : ⊥ = cc in absurd no
  one_follow_query one q x y (inr a) (inr b) = one q x y a.1 b.1

  pub some_follow_query : ((q : QueryTerm) → (t : Turn) × (Refuses m (FollowBreaks m.graph m.follows name q) watch_rules t ⊎ AddsFollow m name q t)) → (q : QueryTerm) → (t : Turn) × FollowsQuery m name q t
  some_follow_query some q = by_test (names_both q) refl
    where
      by_test : (b : Bool) → names_both q ≡ b → (t : Turn) × FollowsQuery m name q t
      by_test true e = let t = some q in (t.0, inr (e, t.1))
      by_test false e = (told m (Bad Names), inl (e, refl))
