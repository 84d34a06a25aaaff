-- What is decided of edits and watches, over what the session has.
use Rattle.std.proofs.Common.{◌≡◌, inl, inr, ℕ, List, [], ◌∷◌, ◌++◌, length, Some, None, refl, sym, ap, subst, ◌∙◌, append-nil, arith}
use Rattle.std.specs.Prelude.{Option, Result, Ok, Err, slice_get, IsSomeAnd}
use Rattle.itpg_base.specs.Words.{Word}
use Rattle.itpg_base.specs.Graphs.{Graph}
use Rattle.itpg_base.specs.Lists.{Among}
use Rattle.itpg_base.specs.declared.rule_code.RuleCode.{RuleCode}
use Rattle.itpg_base.specs.declared.rule_code.RuleCode.TheVariants.{Unknown}
use Rattle.itpg_base.specs.declared.touch.Touch.{Touch}
use Rattle.itpg_edit.specs.declared.edit.Edit.{Edit}
use Rattle.itpg_edit.specs.Rules.{FirstOf, NoneOf, Breaks, Broken, Unbroken, rules_of}
use Rattle.itpg_edit.proofs.FirstOf.{first_or_unbroken}
use Rattle.itpg_edit.specs.Next.{Makes as MakesGraph, TakesMemory}
use Rattle.edit_reader.specs.Readings.{Changes}
use Rattle.path_ast.specs.Terms.{PathTerm, QueryTerm}
use Rattle.label_scope.specs.declared.footprint.Footprint.{Footprint}
use Rattle.label_scope.specs.declared.scope.Scope.TheVariants.{All}
use Rattle.label_scope.specs.Footprints.{footprint}
use Rattle.plan_cache.specs.Nodes.{Table, PlanNode, IsNodeOf, narrowed_member}
use Rattle.plan_cache.specs.Footprints.{footprint_of, footprints_of}
use Rattle.plan_cache.specs.KeptRows.{Forgets}
use Rattle.standing_queries.specs.Watches.{Watch, IsWatched as IsWatchedThere, new_watch as new_standing, without as standing_without}
use Rattle.standing_queries.specs.Touched.{AreTouched}
use Rattle.standing_queries.proofs.Watching.{without_among as among_without}
use Rattle.itpg_pins.specs.Pins.{Held}
use Rattle.source_rows.specs.Follows.{Follow}
use Rattle.itpg_session.specs.PlainWatches.{PlainWatch, all_plain}
use Rattle.itpg_session.specs.PlainPins.{plain_pins}
use Rattle.itpg_session.specs.PlainFollows.{PlainFollow, plain_follows}
use Rattle.itpg_session.specs.Rules.{WatchBreaks, NameBreaks, TickBreaks, watch_rules, name_rules, tick_rules}
use Rattle.itpg_session.specs.Replies.{Silent, Refused, line_reply}
use Rattle.itpg_session.specs.Keeping.{IsWatchRight, AreWatchesRight, IsKeptRight, AddsPath, AddsOrRenews, IsWorked}
use Rattle.itpg_session.specs.declared.reply.Reply.{Reply as ReplyValue}
use Rattle.itpg_session.specs.Machine.{Machine, Standing, Turn, stood, Answers, WatchesQuery, DropsName, DropsWatch, told}
use Rattle.itpg_session.specs.Steps.{IsAlike, ForgetsEdit, IsDecided, Decides}
use Rattle.itpg_session.proofs.Planned.{alike_same, alike_again}
use Rattle.itpg_session.proofs.Told.{silent, said_alike}
use Rattle.itpg_session.proofs.Answering.{added, dropped, edit_made, edit_refused, may_name, is_unknown, refusal}
use Rattle.itpg_session.proofs.Plain.{plain_append, plain_without, plain_watched, watched_plain, plain_touched, replanned_same}
use Rattle.itpg_session.proofs.Watching.{each_added, none_declared}

module _ (g : Graph) (limit : ℕ) (table : Table) (ws : List Watch) (ps : List Held) (fs : List Follow) (now : Standing) (view : stood g limit table ws ps fs ≡ now) where
  -- ---- an edit

  alike_graph : (same : Graph) → same ≡ g → IsAlike (stood g limit table ws ps fs) (stood same limit table ws ps fs)
  alike_graph same is = record { machine = ap (λ (h : Graph). let m : Machine = record { graph = h; watches = all_plain ws; pins = plain_pins ps; follows = plain_follows fs } in m) is; limit = refl; watches = replanned_same ws }

  pub refused_edit : (same : Graph) → same ≡ g → (edit : Edit) (rule : RuleCode) → Broken g edit rule → IsDecided (Answers now.limit now.machine (Changes edit)) now (stood same limit table ws ps fs) (Refused rule)
  refused_edit same is edit rule broken =
      subst (λ (s : Standing). IsDecided (Answers s.limit s.machine (Changes edit)) s (stood same limit table ws ps fs) (Refused rule)) view
      (said_alike (stood g limit table ws ps fs) (stood same limit table ws ps fs) (Refused rule) (alike_graph same is)
      (edit_refused limit (stood g limit table ws ps fs).machine edit rule broken _ refl))

  pub unmade_edit : (same : Graph) → same ≡ g → (edit : Edit) → Unbroken g edit × TakesMemory edit → IsAlike now (stood same limit table ws ps fs) × (Unbroken now.machine.graph edit × TakesMemory edit)
  unmade_edit same is edit wants =
      subst (λ (s : Standing). IsAlike s (stood same limit table ws ps fs) × (Unbroken s.machine.graph edit × TakesMemory edit)) view
      (alike_graph same is, wants)

  pub made_edit : (new : Graph) (touch : Touch) (left : Table) (vs : List Watch) (hs : List Follow) (edit : Edit) → plain_follows hs ≡ plain_follows fs → MakesGraph g edit new touch → ((w : Watch) → Among ws w → w.foot ≡ footprint w.query.path All All)
      → AreTouched touch ws vs → IsDecided (Answers now.limit now.machine (Changes edit)) now (stood new limit left vs ps hs) Silent
  made_edit new touch left vs hs edit same makes feet touches =
      let m : Machine = (stood g limit table ws ps fs).machine in
      subst (λ (s : Standing). IsDecided (Answers s.limit s.machine (Changes edit)) s (stood new limit left vs ps hs) Silent) view
      (silent (stood g limit table ws ps fs) (stood new limit left vs ps hs) refl
      (subst (λ (xs : List PlainFollow). let n : Machine = record { graph = new; watches = all_plain vs; pins = plain_pins ps; follows = xs } in Answers limit m (Changes edit) (told n Silent)) (sym same)
      (edit_made limit m edit new touch (all_plain vs) makes (plain_touched touch ws vs feet touches))))

  pub forgotten_edit : (new : Graph) (touch : Touch) (left : Table) (vs : List Watch) (hs : List Follow) (edit : Edit) → MakesGraph g edit new touch → left.nodes ≡ table.nodes → Forgets touch (footprints_of table.nodes) table.kept left.kept
      → ForgetsEdit edit now (stood new limit left vs ps hs)
  forgotten_edit new touch left vs hs edit makes nodes forgets = subst (λ (s : Standing). ForgetsEdit edit s (stood new limit left vs ps hs)) view (record { touch = touch; makes = makes; nodes = nodes; forgets = forgets })

  -- an edit that is refused breaks a rule
  pub broken_edit : (edit : Edit) (rule : RuleCode) → Broken g edit rule → Unbroken now.machine.graph edit → ⊥
  broken_edit edit rule broken unbroken = first_or_unbroken (Breaks g edit) (rules_of edit) rule broken (subst (λ (s : Standing). Unbroken s.machine.graph edit) (sym view) unbroken)

  -- ---- a watch more

  pub added_watch : (vs : List Watch) (name : Word) (q : QueryTerm) (plan : ℕ) (foot : Footprint) → NoneOf (WatchBreaks now.machine.graph now.machine.watches name q) watch_rules
      → vs ≡ ws ++ new_standing name q plan foot ∷ [] → IsDecided (WatchesQuery now.machine name q) now (stood g limit table vs ps fs) Silent
  added_watch vs name q plan foot unbroken is =
      let none = subst (λ (s : Standing). NoneOf (WatchBreaks s.machine.graph s.machine.watches name q) watch_rules) (sym view) unbroken in
      subst (λ (s : Standing). IsDecided (WatchesQuery s.machine name q) s (stood g limit table vs ps fs) Silent) view
      (silent (stood g limit table ws ps fs) (stood g limit table vs ps fs) refl
      (inr (added (stood g limit table ws ps fs).machine name q none (all_plain vs) (ap all_plain is ∙ plain_append ws (new_standing name q plan foot ∷ [])))))

  pub unadded_watch : (vs : List Watch) → vs ≡ ws → IsAlike now (stood g limit table vs ps fs)
  unadded_watch vs is = subst (λ (us : List Watch). IsAlike now (stood g limit table us ps fs)) (sym is) (subst (λ (s : Standing). IsAlike s (stood g limit table ws ps fs)) view (record { machine = refl; limit = refl; watches = replanned_same ws }))

  -- ---- a watch less

  pub dropped_watch : (vs : List Watch) (name : Word) → NoneOf (TickBreaks g) tick_rules → ((IsWatchedThere ws name → ⊥) → ⊥) → vs ≡ standing_without name ws
      → IsDecided (DropsName now.machine name) now (stood g limit table vs ps fs) Silent
  dropped_watch vs name begun known is =
      subst (λ (s : Standing). IsDecided (DropsName s.machine name) s (stood g limit table vs ps fs) Silent) view
      (silent (stood g limit table ws ps fs) (stood g limit table vs ps fs) refl
      (inr (dropped (stood g limit table ws ps fs).machine name (may_name (stood g limit table ws ps fs).machine name begun (λ no. known (λ there. no (plain_watched ws name there)))) (all_plain vs) (ap all_plain is ∙ plain_without name ws))))

  pub unknown_watch : (vs : List Watch) (name : Word) → NoneOf (TickBreaks g) tick_rules → (IsWatchedThere ws name → ⊥) → vs ≡ ws → IsDecided (DropsName now.machine name) now (stood g limit table vs ps fs) (Refused Unknown)
  unknown_watch vs name begun none is =
      let m = (stood g limit table ws ps fs).machine in
      subst (λ (s : Standing). IsDecided (DropsName s.machine name) s (stood g limit table vs ps fs) (Refused Unknown)) view
      (said_alike (stood g limit table ws ps fs) (stood g limit table vs ps fs) (Refused Unknown) (subst (λ (us : List Watch). IsAlike (stood g limit table ws ps fs) (stood g limit table us ps fs)) (sym is) (alike_same (stood g limit table ws ps fs)))
      (refusal m (NameBreaks m.graph m.watches name) name_rules (DropsWatch m name) Unknown (is_unknown m name begun (λ there. none (watched_plain ws name there))) _ refl))

-- what is decided of a session is decided of one that is alike
pub decides_alike : {E : Type 0} (P : Machine → Turn → Type 0) (W : Type 0) (a b c : Standing) (result : Result ReplyValue E) → IsAlike a b → Decides (P b.machine) W b c result → Decides (P a.machine) W a c result
decides_alike P W a b c (Ok reply) alike d = record {
  turns = subst (λ (m : Machine). P m (told c.machine (line_reply reply))) alike.machine d.turns;
  waits = λ some. alike_again a b c alike (d.waits some);
  limit = d.limit ∙ alike.limit;
}
decides_alike P W a b c (Err error) alike d = (alike_again a b c alike d.0, d.1)

-- a tick that may not be is refused by its one rule, and so is a name then
pub tick_first : (g : Graph) (ws : List PlainWatch) (name : Word) (rule : RuleCode) → FirstOf (TickBreaks g) tick_rules rule → FirstOf (NameBreaks g ws name) name_rules rule
tick_first g ws name rule (inl first) = inl first
tick_first g ws name rule (inr none) = absurd none.1

-- ---- what the table may have more

pub adds_none : (p : PathTerm) (table : Table) → AddsPath p table table
adds_none p table = record {
  grows = record { more = []; is = sym (append-nil table.nodes); few = omega arith };
  under = λ k from below. absurd (omega (arith, from, below));
  stays = λ k rows is. is;
  only = λ k rows is. inl is;
}

pub worked_none : (table : Table) → IsWorked table table
worked_none table = record { nodes = refl; stays = λ k rows is. is }

-- nothing else changes after a path was added
pub adds_then : (p : PathTerm) (ws : List PlainWatch) (old table new : Table) → new ≡ table → AddsOrRenews p ws old table → AddsOrRenews p ws old new
adds_then p ws old table new is adds = subst (AddsOrRenews p ws old) (sym is) adds

-- ---- what is kept stays right

module _ (g : Graph) (limit : ℕ) (table : Table) where
  pub right_added : (ws vs : List Watch) (name : Word) (q : QueryTerm) (plan : ℕ) (foot : Footprint) → vs ≡ ws ++ new_standing name q plan foot ∷ []
      → IsNodeOf table.nodes plan (narrowed_member q.path All All) → foot ≡ footprint q.path All All → IsKeptRight g limit table ws → IsKeptRight g limit table vs
  right_added ws vs name q plan foot is planned footed right = record {
    table_right = right.table_right;
    watches_right = subst (AreWatchesRight g limit table.nodes) (sym is) (each_added (IsWatchRight g limit table.nodes) ws (new_standing name q plan foot) right.watches_right (record {
      planned = planned;
      footed = footed;
      declared = none_declared (length g.objects) q;
      answered = tt;
    }));
  }

  pub right_without : (ws vs : List Watch) (name : Word) → vs ≡ standing_without name ws → IsKeptRight g limit table ws → IsKeptRight g limit table vs
  right_without ws vs name is right = record {
    table_right = right.table_right;
    watches_right = subst (AreWatchesRight g limit table.nodes) (sym is) (λ w a. right.watches_right w (among_without name ws w a));
  }

  pub right_same : (ws vs : List Watch) → vs ≡ ws → IsKeptRight g limit table ws → IsKeptRight g limit table vs
  right_same ws vs is right = subst (IsKeptRight g limit table) (sym is) right

-- the footprint of the node of a path is the path's
pub node_foot : (nodes : List PlanNode) (k : ℕ) (q : QueryTerm) (foot : Footprint) → IsNodeOf nodes k (narrowed_member q.path All All) → IsSomeAnd (slice_get nodes k) (λ n. foot ≡ footprint_of n.member) → foot ≡ footprint q.path All All
node_foot nodes k q foot planned is = by_node (slice_get nodes k) planned is
  where
    by_node : (o : Option PlanNode) → IsSomeAnd o (λ n. n.member ≡ narrowed_member q.path All All) → IsSomeAnd o (λ n. foot ≡ footprint_of n.member) → foot ≡ footprint q.path All All
    by_node None h e = absurd h
    by_node (Some n) h e = e ∙ ap footprint_of h
