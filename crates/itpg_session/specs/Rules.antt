-- The rules of questions and of commands on watches, on pins and on follows, in the order in which they are tried.
use Rattle.std.specs.Prelude.{◌≢◌, ◌≤◌, ◌⊎◌, List, [], ◌∷◌, length, IsNone, IsSomeAnd}
use Rattle.itpg_base.specs.Words.{Word}
use Rattle.itpg_base.specs.Graphs.{Graph}
use Rattle.itpg_base.specs.declared.rule_code.RuleCode.{RuleCode}
use Rattle.itpg_base.specs.declared.rule_code.RuleCode.TheVariants.{NoGraph, GraphName, Taken, Unknown, Full}
use Rattle.path_ast.specs.Terms.{QueryTerm}
use Rattle.standing_queries.specs.Watches.{most_watches}
use Rattle.itpg_edit.specs.Facts.{IsUnknown}
use Rattle.itpg_pins.specs.Pins.{most_pins}
use Rattle.source_rows.specs.Follows.{most_follows}
use Rattle.itpg_session.specs.PlainWatches.{PlainWatch, IsWatched}
use Rattle.itpg_session.specs.PlainPins.{Pin, IsPinned}
use Rattle.itpg_session.specs.PlainFollows.{PlainFollow, IsFollowed}

-- the query is meant for a graph of another name
abbrev pub NamesAnother : Graph → QueryTerm → Type 0
NamesAnother g q = IsSomeAnd q.graph_name (λ name. IsSomeAnd g.begun (λ b. b.name ≢ name))

-- the rules of a query that is asked, in order
abbrev pub ask_rules : List RuleCode
ask_rules = NoGraph ∷ GraphName ∷ []

-- the rules of a query that is to be watched or followed, in order
abbrev pub watch_rules : List RuleCode
watch_rules = NoGraph ∷ GraphName ∷ Taken ∷ Full ∷ []

-- the rules of the name of a watch, a pin or a follow that must stand, and of the name of an object beside it, in order
abbrev pub name_rules : List RuleCode
name_rules = NoGraph ∷ Unknown ∷ []

-- the rules of a tick
abbrev pub tick_rules : List RuleCode
tick_rules = NoGraph ∷ []

-- the rules of a pin that is to be opened, in order
abbrev pub open_rules : List RuleCode
open_rules = NoGraph ∷ Taken ∷ Full ∷ []

-- the query breaks the rule on this graph
abbrev pub QueryBreaks : Graph → QueryTerm → RuleCode → Type 0
QueryBreaks g q NoGraph = IsNone g.begun
QueryBreaks g q GraphName = NamesAnother g q
QueryBreaks g q rule = ⊥

-- to be watched under the name, beside these watches, the query breaks the rule
abbrev pub WatchBreaks : Graph → List PlainWatch → Word → QueryTerm → RuleCode → Type 0
WatchBreaks g watches name q Taken = IsWatched watches name
WatchBreaks g watches name q Full = most_watches ≤ length watches
WatchBreaks g watches name q rule = QueryBreaks g q rule

-- as that of one of these watches, the name breaks the rule
abbrev pub NameBreaks : Graph → List PlainWatch → Word → RuleCode → Type 0
NameBreaks g watches name NoGraph = IsNone g.begun
NameBreaks g watches name Unknown = ¬ IsWatched watches name
NameBreaks g watches name rule = ⊥

-- a tick breaks the rule on this graph
abbrev pub TickBreaks : Graph → RuleCode → Type 0
TickBreaks g NoGraph = IsNone g.begun
TickBreaks g rule = ⊥

-- beside these pins, to open one under the name breaks the rule
abbrev pub OpenBreaks : Graph → List Pin → Word → RuleCode → Type 0
OpenBreaks g pins name NoGraph = IsNone g.begun
OpenBreaks g pins name Taken = IsPinned pins name
OpenBreaks g pins name Full = most_pins ≤ length pins
OpenBreaks g pins name rule = ⊥

-- as that of one of these pins, the name breaks the rule
abbrev pub PinBreaks : Graph → List Pin → Word → RuleCode → Type 0
PinBreaks g pins name NoGraph = IsNone g.begun
PinBreaks g pins name Unknown = ¬ IsPinned pins name
PinBreaks g pins name rule = ⊥

-- to be followed under the name, beside these follows, the query breaks the rule
abbrev pub FollowBreaks : Graph → List PlainFollow → Word → QueryTerm → RuleCode → Type 0
FollowBreaks g follows name q Taken = IsFollowed follows name
FollowBreaks g follows name q Full = most_follows ≤ length follows
FollowBreaks g follows name q rule = QueryBreaks g q rule

-- as that of one of these follows, the name breaks the rule
abbrev pub UnfollowBreaks : Graph → List PlainFollow → Word → RuleCode → Type 0
UnfollowBreaks g follows name NoGraph = IsNone g.begun
UnfollowBreaks g follows name Unknown = ¬ IsFollowed follows name
UnfollowBreaks g follows name rule = ⊥

-- as those of one of these follows and of a standing object, the two names break the rule
abbrev pub NearBreaks : Graph → List PlainFollow → Word → Word → RuleCode → Type 0
NearBreaks g follows name id NoGraph = IsNone g.begun
NearBreaks g follows name id Unknown = (¬ IsFollowed follows name) ⊎ IsUnknown g id
NearBreaks g follows name id rule = ⊥
