-- What is told of a follow's rows from an object, and what is kept of them, over what the session has.
use Rattle.std.proofs.Common.{◌≡◌, ◌⊎◌, inl, inr, ℕ, ◌<◌, List, length, Some, refl, sym, ap, subst, ◌∙◌}
use Rattle.std.specs.Prelude.{slice_get, IsSomeAnd, Result, Ok, Err, IfOk, OnOk}
use Rattle.std.proofs.lemmas.Option.{slice_get_within}
use Rattle.itpg_base.specs.Words.{Word}
use Rattle.itpg_base.specs.Graphs.{Good, Named}
use Rattle.itpg_base.proofs.Objects.{same_some}
use Rattle.itpg_base.specs.declared.rule_code.RuleCode.{RuleCode}
use Rattle.itpg_edit.specs.Rules.{FirstOf, NoneOf}
use Rattle.itpg_edit.proofs.FirstOf.{first_or_unbroken}
use Rattle.edit_reader.specs.Readings.{Nears}
use Rattle.relation_rows.specs.Answered.{Answered}
use Rattle.standing_queries.proofs.Named.{get_among}
use Rattle.source_rows.specs.Follows.{Follow, HasRows, HasSource, Keeps, IsKept, IsOnlyPlace}
use Rattle.itpg_session.specs.PlainFollows.{PlainFollow, plain_follow, plain_follows}
use Rattle.itpg_session.specs.Questions.{HasRowsFrom}
use Rattle.itpg_session.specs.Keeping.{AreFollowsRight}
use Rattle.itpg_session.specs.Rules.{NearBreaks, name_rules}
use Rattle.itpg_session.specs.Replies.{Reply, Silent, Bad, Refused, Wide, Rows, Counted, Shown, OfPin, PerWatch, IsFoundNear, line_reply}
use Rattle.itpg_session.specs.declared.reply.Reply.{Reply as ReplyValue}
use Rattle.itpg_session.specs.Steps.{IsAlike, Decides}
use Rattle.itpg_session.proofs.Told.{said_alike}
use Rattle.itpg_session.specs.Machine.{Standing, Turn, TellsNear, NearsName, told}
use Rattle.itpg_session.specs.Following.{NearsKept, KeepsOrLacks, KeepsTold, KeepsNear, GainsAt, GainsRows}
use Rattle.itpg_session.proofs.FollowLists.{follow_at}
use Rattle.itpg_session.proofs.NamedLists.{found_at, at_map}
use Rattle.itpg_session.proofs.Nearby.{not_wide}

nothing_found : (P : Follow → Type 0) (fs : List Follow) (i : ℕ) → IsSomeAnd (slice_get fs i) P → ((f : Follow) → P f → ⊥) → ⊥
nothing_found P fs i some none = let r = found_at P fs i some in none r.0 r.3

module _ (s : Standing) (plain : plain_follows s.follows ≡ s.machine.follows) (name id : Word) (place object : ℕ) (named : IsSomeAnd (slice_get s.follows place) (λ f. f.name ≡ name)) (is_object : Named s.machine.graph object id) where
  -- the follow at the place
  here : (f : Follow) × (slice_get s.follows place ≡ Some f) × (f.name ≡ name)
  here = let r = found_at (λ (f : Follow). f.name ≡ name) s.follows place named in (r.0, r.2, r.3)

  machine_at : (f : Follow) → slice_get s.follows place ≡ Some f → slice_get s.machine.follows place ≡ Some (plain_follow f)
  machine_at f at = subst (λ (fs : List PlainFollow). slice_get fs place ≡ Some (plain_follow f)) plain (follow_at s.follows place f at)

  pub place_there : place < length s.follows
  place_there = let f = here in slice_get_within s.follows place f.0 f.1

  module _ (unbroken : NoneOf (NearBreaks s.machine.graph s.machine.follows name id) name_rules) where
    -- what is found for the follow's query near the object is told
    pub tells_near : (reply : Reply) → IsSomeAnd (slice_get s.follows place) (λ f. IsFoundNear s.machine.graph s.limit f.query object reply) → TellsNear s.limit s.machine name id (told s.machine reply)
    tells_near reply finds =
        let f = here in
        record {
          unbroken = unbroken;
          place = place;
          follow = plain_follow f.0;
          at = machine_at f.0 f.1;
          named = f.2;
          object = object;
          is_object = is_object;
          reply = reply;
          finds = subst (λ o. IsSomeAnd o (λ h. IsFoundNear s.machine.graph s.limit h.query object reply)) f.1 finds;
          is = refl;
        }

    -- what is kept of the object is at hand
    module _ (right : AreFollowsRight s.machine.graph s.limit s.follows) where
      pub keeps_hand : (answer : Answered) → Keeps s.follows place object answer → NearsKept s name id answer
      keeps_hand answer keeps =
          let f = here in
          let has = subst (λ o. IsSomeAnd o (λ h. HasRows h.entries object answer)) f.1 keeps in
          let entry = right f.0 has.0 (get_among s.follows place f.0 f.1) has.1 in
          record {
            unbroken = unbroken;
            place = place;
            follow = f.0;
            at = f.1;
            plain_at = machine_at f.0 f.1;
            named = f.2;
            object = object;
            is_object = is_object;
            kept = has;
            rows = subst (λ (o : ℕ). HasRowsFrom s.machine.graph s.limit (f.0).query o answer) has.2 (subst (λ (a : Answered). HasRowsFrom s.machine.graph s.limit (f.0).query (has.0).source a) has.3 entry.rows);
          }

      pub not_kept : ((answer : Answered) × NearsKept s name id answer → ⊥) → IsKept s.follows place object → ⊥
      not_kept none kept =
          let f = here in
          let has = subst (λ o. IsSomeAnd o (λ h. HasSource h.entries object)) f.1 kept in
          let keeps : Keeps s.follows place object (has.0).rows = subst (λ o. IsSomeAnd o (λ h. HasRows h.entries object (has.0).rows)) (sym f.1) (has.0, has.1, has.2, refl) in
          none ((has.0).rows, keeps_hand (has.0).rows keeps)

  -- ---- another place, another object

  module _ (only : IsOnlyPlace s.follows name place) (good : Good s.machine.graph) where
    same_place : (other : ℕ) (h : PlainFollow) → slice_get s.machine.follows other ≡ Some h → h.name ≡ name → other ≡ place
    same_place other h at is =
        let r = at_map plain_follow s.follows other h (subst (λ (fs : List PlainFollow). slice_get fs other ≡ Some h) (sym plain) at) in
        only other (subst (λ o. IsSomeAnd o (λ f. f.name ≡ name)) (sym r.1) (ap (λ (v : PlainFollow). v.name) r.2 ∙ is))

    -- where nothing is kept of the object, nothing is at hand
    pub none_hand : (IsKept s.follows place object → ⊥) → (answer : Answered) × NearsKept s name id answer → ⊥
    none_hand none (answer, k) =
        let at : k.place ≡ place = only k.place (subst (λ o. IsSomeAnd o (λ f. f.name ≡ name)) (sym k.at) k.named) in
        let one : k.object ≡ object = good.names_differ k.object object id k.is_object is_object in
        let own : IsKept s.follows k.place k.object = subst (λ o. IsSomeAnd o (λ f. HasSource f.entries k.object)) (sym k.at) ((k.kept).0, (k.kept).1, (k.kept).2) in
        none (subst (λ (i : ℕ). IsKept s.follows i object) at (subst (λ (o : ℕ). IsKept s.follows k.place o) one own))

    -- a turn that tells rows doesn't find the query too wide
    wide_or_rows : (answer : Answered) → IsSomeAnd (slice_get s.follows place) (λ f. IsFoundNear s.machine.graph s.limit f.query object Wide) → TellsNear s.limit s.machine name id (told s.machine (Rows answer)) → ⊥
    wide_or_rows answer wide t =
        let f = here in
        let too = subst (λ o. IsSomeAnd o (λ h. IsFoundNear s.machine.graph s.limit h.query object Wide)) f.1 wide in
        let at : t.place ≡ place = same_place t.place t.follow t.at t.named in
        let one : t.object ≡ object = good.names_differ t.object object id t.is_object is_object in
        let same : t.follow ≡ plain_follow f.0 = same_some t.follow (plain_follow f.0) (slice_get s.machine.follows place) (subst (λ (i : ℕ). slice_get s.machine.follows i ≡ Some t.follow) at t.at) (machine_at f.0 f.1) in
        let reply : t.reply ≡ Rows answer = sym (ap (λ (u : Turn). u.reply) t.is) in
        let finds = subst (λ (r : Reply). IsFoundNear s.machine.graph s.limit (t.follow).query t.object r) reply t.finds in
        let own = subst (λ (h : PlainFollow). HasRowsFrom s.machine.graph s.limit h.query object answer) same (subst (λ (o : ℕ). HasRowsFrom s.machine.graph s.limit (t.follow).query o answer) one finds) in
        not_wide s.machine.graph s.limit (f.0).query object answer own too

    told_by : (answer : Answered) → NearsName s.limit s.machine name id (told s.machine (Rows answer)) → TellsNear s.limit s.machine name id (told s.machine (Rows answer))
    told_by answer (inl refused) = absurd (let e = ap (λ (u : Turn). u.reply) refused.is in let no : ⊥ = cc in no)
    told_by answer (inr t) = t

    -- after rows were told, rows of the object are kept, or there was no room for them
    pub keeps_told : (new : Standing) (reply : Reply) → IsSomeAnd (slice_get s.follows place) (λ f. IsFoundNear s.machine.graph s.limit f.query object reply)
        → ((answer : Answered) → reply ≡ Rows answer → KeepsOrLacks place object s new) → (answer : Answered) → NearsName s.limit s.machine name id (told s.machine (Rows answer)) → KeepsTold name id s new
    keeps_told new Wide finds kept answer turn = absurd (wide_or_rows answer finds (told_by answer turn))
    keeps_told new (Rows own) finds kept answer turn = record { place = place; named = named; object = object; is_object = is_object; kept = kept own refl }
    keeps_told new Silent finds kept answer turn = absurd (nothing_found _ s.follows place finds (λ f h. h))
    keeps_told new (Bad code) finds kept answer turn = absurd (nothing_found _ s.follows place finds (λ f h. h))
    keeps_told new (Refused rule) finds kept answer turn = absurd (nothing_found _ s.follows place finds (λ f h. h))
    keeps_told new (Counted counts) finds kept answer turn = absurd (nothing_found _ s.follows place finds (λ f h. h))
    keeps_told new (Shown i found) finds kept answer turn = absurd (nothing_found _ s.follows place finds (λ f h. h))
    keeps_told new (OfPin i own) finds kept answer turn = absurd (nothing_found _ s.follows place finds (λ f h. h))
    keeps_told new (PerWatch found) finds kept answer turn = absurd (nothing_found _ s.follows place finds (λ f h. h))

  -- the follow's gain is that of its name
  pub gains_rows : (new : Standing) → GainsAt place object s.follows new.follows ⊎ (new.follows ≡ s.follows) → GainsRows name id s new ⊎ (new.follows ≡ s.follows)
  gains_rows new (inl gains) = inl (record { place = place; named = named; object = object; is_object = is_object; gains = gains })
  gains_rows new (inr is) = inr is

-- ---- by what was answered

module _ (s : Standing) (plain : plain_follows s.follows ≡ s.machine.follows) (name id : Word) (place object : ℕ) (named : IsSomeAnd (slice_get s.follows place) (λ f. f.name ≡ name)) (is_object : Named s.machine.graph object id) where
  pub near_decides : {E : Type 0} (unbroken : NoneOf (NearBreaks s.machine.graph s.machine.follows name id) name_rules) (new : Standing) (result : Result ReplyValue E) → IsAlike s new
      → IfOk result (λ reply. IsSomeAnd (slice_get s.follows place) (λ f. IsFoundNear s.machine.graph s.limit f.query object (line_reply reply)))
      → Decides (NearsName s.limit s.machine name id) (NoneOf (NearBreaks s.machine.graph s.machine.follows name id) name_rules) s new result
  near_decides unbroken new (Ok reply) alike finds = said_alike s new (line_reply reply) alike (inr (tells_near s plain name id place object named is_object unbroken (line_reply reply) finds))
  near_decides unbroken new (Err error) alike finds = (alike, unbroken)

  pub near_keeps : {E : Type 0} (only : IsOnlyPlace s.follows name place) (good : Good s.machine.graph) (new : Standing) (result : Result ReplyValue E)
      → IfOk result (λ reply. IsSomeAnd (slice_get s.follows place) (λ f. IsFoundNear s.machine.graph s.limit f.query object (line_reply reply)))
      → IfOk result (λ reply. (answer : Answered) → line_reply reply ≡ Rows answer → KeepsOrLacks place object s new) → OnOk result (KeepsNear (Nears name id) s new)
  near_keeps only good new (Ok reply) finds kept = keeps_told s plain name id place object named is_object only good new (line_reply reply) finds kept
  near_keeps only good new (Err error) finds kept = tt

-- names that are refused are answered with no rows
pub near_refused : (s : Standing) (name id : Word) (rule : RuleCode) → FirstOf (NearBreaks s.machine.graph s.machine.follows name id) name_rules rule → (answer : Answered) → NearsName s.limit s.machine name id (told s.machine (Rows answer)) → ⊥
near_refused s name id rule first answer (inl refused) = let e = ap (λ (u : Turn). u.reply) refused.is in let no : ⊥ = cc in no
near_refused s name id rule first answer (inr t) = first_or_unbroken (NearBreaks s.machine.graph s.machine.follows name id) name_rules rule first t.unbroken
