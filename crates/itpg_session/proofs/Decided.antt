-- It is decided which rule a query, the name of a watch or of a pin, or a tick breaks first.
use Rattle.std.proofs.Common.{◌≡◌, ◌≢◌, List, [], ◌∷◌, ◌⊎◌, inl, inr, ⊎_elim, length, Option, Some, None, Bool, true, false, refl, sym, ap, ◌∙◌}
use Rattle.std.specs.Prelude.{IsNone, IsSomeAnd, nat_eq}
use Rattle.std.specs.Cmp.Lexicographic.{pointwise}
use Rattle.itpg_base.specs.Words.{Word}
use Rattle.itpg_base.specs.Decided.{Decided}
use Rattle.itpg_base.specs.Graphs.{Graph, Begun}
use Rattle.itpg_base.specs.declared.rule_code.RuleCode.{RuleCode}
use Rattle.itpg_base.specs.declared.rule_code.RuleCode.TheVariants.{NoGraph, Again, Taken, Unknown, Kind, Backwards, Horizon, Ends, Absent, Held, Incident, Full, GraphName, Narrow}
use Rattle.itpg_base.proofs.Objects.{word_same, word_refl}
use Rattle.itpg_base.proofs.Searches.{at_most}
use Rattle.itpg_edit.specs.Rules.{FirstOf, NoneOf}
use Rattle.path_ast.specs.Terms.{QueryTerm}
use Rattle.standing_queries.specs.Watches.{most_watches}
use Rattle.itpg_pins.specs.Pins.{most_pins}
use Rattle.itpg_session.specs.PlainWatches.{PlainWatch, IsWatched}
use Rattle.itpg_session.specs.PlainPins.{Pin, IsPinned}
use Rattle.itpg_session.specs.Rules.{QueryBreaks, WatchBreaks, NameBreaks, TickBreaks, OpenBreaks, PinBreaks}

pub decide_same : (a b : Word) → Decided (a ≡ b)
decide_same a b = by_test (pointwise nat_eq a b) refl
  where
    by_test : (t : Bool) → pointwise nat_eq a b ≡ t → Decided (a ≡ b)
    by_test true e = inl (word_same a b e)
    by_test false e = inr (λ k. let r : pointwise nat_eq a a ≡ true = word_refl a in let s : pointwise nat_eq a b ≡ true = sym (ap (pointwise nat_eq a) k) ∙ r in let no : ⊥ = cc in no)

pub decide_begun : (b : Option Begun) → Decided (IsNone b)
decide_begun None = inl refl
decide_begun (Some b) = inr (λ e. let no : ⊥ = cc in no)

decide_name : (name : Option Word) (b : Option Begun) → Decided (IsSomeAnd name (λ n. IsSomeAnd b (λ g. g.name ≢ n)))
decide_name None b = inr (λ h. absurd h)
decide_name (Some name) None = inr (λ h. absurd h)
decide_name (Some name) (Some b) = elim (decide_same b.name name) [ inl e ↦ inr (λ h. h e) | inr n ↦ inl n ]

-- tried one after another, some rule of the list is the first that is broken, or none is
pub first_or_none : (broken : RuleCode → Type 0) → ((rule : RuleCode) → Decided (broken rule)) → (rules : List RuleCode) → ((rule : RuleCode) × FirstOf broken rules rule) ⊎ NoneOf broken rules
first_or_none broken decide [] = inr tt
first_or_none broken decide (r ∷ rest) = elim (decide r) [
  | inl b ↦ inl (r, inl (b, refl))
  | inr n ↦ elim (first_or_none broken decide rest) [ inl f ↦ inl (f.0, inr (n, f.1)) | inr u ↦ inr (n, u) ]
]

pub decide_ask : (g : Graph) (q : QueryTerm) (rule : RuleCode) → Decided (QueryBreaks g q rule)
decide_ask g q NoGraph = decide_begun g.begun
decide_ask g q GraphName = decide_name q.graph_name g.begun
decide_ask g q _ = inr (λ no. no)

-- of lists of watches it is decided whether a name is one of theirs
pub decide_watched : (ws : List PlainWatch) (name : Word) → Decided (IsWatched ws name)
decide_watched [] name = inr (λ h. absurd h.1)
decide_watched (w ∷ ws) name = elim (decide_same w.name name) [
  | inl e ↦ inl (w, inl refl, e)
  | inr n ↦ elim (decide_watched ws name) [
    | inl h ↦ inl (h.0, inr h.1, h.2)
    | inr k ↦ inr (λ h. ⊎_elim (λ e. n (ap (λ (v : PlainWatch). v.name) e ∙ h.2)) (λ a. k (h.0, a, h.2)) h.1)
  ]
]

pub decide_not : {P : Type 0} → Decided P → Decided (P → ⊥)
decide_not (inl p) = inr (λ n. n p)
decide_not (inr n) = inl n

pub decide_watch : (g : Graph) (ws : List PlainWatch) (name : Word) (q : QueryTerm) (rule : RuleCode) → Decided (WatchBreaks g ws name q rule)
decide_watch g ws name q NoGraph = decide_begun g.begun
decide_watch g ws name q GraphName = decide_name q.graph_name g.begun
decide_watch g ws name q Taken = decide_watched ws name
decide_watch g ws name q Full = at_most most_watches (length ws)
decide_watch g ws name q Again = inr (λ no. no)
decide_watch g ws name q Unknown = inr (λ no. no)
decide_watch g ws name q Kind = inr (λ no. no)
decide_watch g ws name q Backwards = inr (λ no. no)
decide_watch g ws name q Horizon = inr (λ no. no)
decide_watch g ws name q Ends = inr (λ no. no)
decide_watch g ws name q Absent = inr (λ no. no)
decide_watch g ws name q Held = inr (λ no. no)
decide_watch g ws name q Incident = inr (λ no. no)
decide_watch g ws name q Narrow = inr (λ no. no)

pub decide_named : (g : Graph) (ws : List PlainWatch) (name : Word) (rule : RuleCode) → Decided (NameBreaks g ws name rule)
decide_named g ws name NoGraph = decide_begun g.begun
decide_named g ws name Unknown = decide_not (decide_watched ws name)
decide_named g ws name _ = inr (λ no. no)

pub decide_tick : (g : Graph) (rule : RuleCode) → Decided (TickBreaks g rule)
decide_tick g NoGraph = decide_begun g.begun
decide_tick g _ = inr (λ no. no)

-- where it isn't so that no watch has the name, one has it
pub some_watch : (ws : List PlainWatch) (name : Word) → ((IsWatched ws name → ⊥) → ⊥) → IsWatched ws name
some_watch ws name not_none = elim (decide_watched ws name) [ inl h ↦ h | inr n ↦ absurd (not_none n) ]

-- the same of pins
pub decide_pinned : (ps : List Pin) (name : Word) → Decided (IsPinned ps name)
decide_pinned [] name = inr (λ h. absurd h.1)
decide_pinned (p ∷ ps) name = elim (decide_same p.name name) [
  | inl e ↦ inl (p, inl refl, e)
  | inr n ↦ elim (decide_pinned ps name) [
    | inl h ↦ inl (h.0, inr h.1, h.2)
    | inr k ↦ inr (λ h. ⊎_elim (λ e. n (ap (λ (v : Pin). v.name) e ∙ h.2)) (λ a. k (h.0, a, h.2)) h.1)
  ]
]

pub decide_open : (g : Graph) (ps : List Pin) (name : Word) (rule : RuleCode) → Decided (OpenBreaks g ps name rule)
decide_open g ps name NoGraph = decide_begun g.begun
decide_open g ps name Taken = decide_pinned ps name
decide_open g ps name Full = at_most most_pins (length ps)
decide_open g ps name _ = inr (λ no. no)

pub decide_pin : (g : Graph) (ps : List Pin) (name : Word) (rule : RuleCode) → Decided (PinBreaks g ps name rule)
decide_pin g ps name NoGraph = decide_begun g.begun
decide_pin g ps name Unknown = decide_not (decide_pinned ps name)
decide_pin g ps name _ = inr (λ no. no)

pub some_pin : (ps : List Pin) (name : Word) → ((IsPinned ps name → ⊥) → ⊥) → IsPinned ps name
some_pin ps name not_none = elim (decide_pinned ps name) [ inl h ↦ h | inr n ↦ absurd (not_none n) ]
