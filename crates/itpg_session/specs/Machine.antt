-- The plain machine: what may answer each line, and what it leaves.
use Rattle.std.specs.Prelude.{◌≡◌, ℕ, List, [], ◌∷◌, ◌++◌, Option, Some, None, Bool, true, false, ◌&&◌, is_some, slice_get, ◌⊎◌, IsTrue, Result, Ok, Err}
use Rattle.itpg_base.specs.Words.{Word}
use Rattle.itpg_base.specs.Graphs.{Graph, Object, Good, Named}
use Rattle.itpg_base.specs.declared.rule_code.RuleCode.{RuleCode}
use Rattle.itpg_base.specs.declared.text_code.TextCode.{TextCode}
use Rattle.itpg_base.specs.declared.text_code.TextCode.TheVariants.{Names}
use Rattle.itpg_edit.specs.declared.edit.Edit.{Edit}
use Rattle.itpg_edit.specs.Rules.{rules_of, Breaks, FirstOf, NoneOf}
use Rattle.itpg_edit.specs.Next.{Makes as MakesGraph}
use Rattle.edit_reader.specs.Readings.{Reading, Nothing, Changes, Asks, Wants, Watches, Shows, Unwatches, Ticks, Opens, Closes, AsksIn, Follows, Nears, Unfollows}
use Rattle.edit_reader.specs.Names.{is_word}
use Rattle.edit_reader.specs.declared.line.Wanted.{Wanted}
use Rattle.path_ast.specs.Terms.{QueryTerm}
use Rattle.relation_rows.specs.Answered.{Answered}
use Rattle.match_parser.specs.Reading.{Reads, FaultOf}
use Rattle.itpg_base.specs.Lists.{Among, Ordered}
use Rattle.plan_cache.specs.Nodes.{Table}
use Rattle.itpg_base.specs.declared.touch.Touch.{Touch}
use Rattle.standing_queries.specs.Watches.{Watch, IsOfKind}
use Rattle.itpg_pins.specs.Pins.{Held}
use Rattle.source_rows.specs.Follows.{Follow}
use Rattle.itpg_session.specs.PlainWatches.{PlainWatch, all_plain, NamesDiffer, new_watch, without, marked_at, AreMarkedAfter}
use Rattle.itpg_session.specs.PlainPins.{Pin, plain_pins, PinsDiffer, new_pin, without_pin}
use Rattle.itpg_session.specs.PlainFollows.{PlainFollow, plain_follows, FollowsDiffer, followed, without_follow}
use Rattle.itpg_session.specs.Rules.{watch_rules, name_rules, tick_rules, open_rules}
use Rattle.itpg_session.specs.Rules.{WatchBreaks, NameBreaks, TickBreaks, OpenBreaks, PinBreaks, FollowBreaks, UnfollowBreaks, NearBreaks}
use Rattle.itpg_session.specs.Replies.{Reply, Silent, Bad, Refused, Wide, Rows, Counted, Shown, OfPin, PerWatch, FindsFor, IsFoundNear, IsReply, IsReplyTo, of_pin}
use Rattle.itpg_session.specs.Wanting.{IsReplyWanted}
use Rattle.itpg_session.specs.Ticks.{Ticked, AreTicked, all_moved}
use Rattle.itpg_session.specs.Watching.{AsksForOne}

-- a machine has a graph, and the watches, the pins and the follows that stand, in order of declaration
pub record Machine : Type 0 where
  pub graph : Graph
  pub watches : List PlainWatch
  pub pins : List Pin
  pub follows : List PlainFollow

-- each object of the graph was declared under a word
abbrev pub HasWords : Graph → Type 0
HasWords g = (x : Object) → Among g.objects x → IsTrue (is_word x.name)

-- names are words: those of the objects, of the watches, of the pins and of the objects of their graphs, and of the follows. So none
-- of their bytes needs an escape in a reply of JSON
pub record IsNamedByWords (m : Machine) : Type 0 where
  pub objects : HasWords m.graph
  pub watches : (w : PlainWatch) → Among m.watches w → IsTrue (is_word w.name)
  pub pins : (p : Pin) → Among m.pins p → IsTrue (is_word p.name) × HasWords p.graph
  pub follows : (f : PlainFollow) → Among m.follows f → IsTrue (is_word f.name)

-- what each machine keeps: its graph is good, no two watches, no two pins and no two follows have one name, each watch asks for an
-- end of its path and has a base of its kind, and names are words
pub record IsGood (m : Machine) : Type 0 where
  pub graph : Good m.graph
  pub differ : Ordered NamesDiffer m.watches
  pub asks : (w : PlainWatch) → Among m.watches w → AsksForOne w.query
  pub kinds : (w : PlainWatch) → Among m.watches w → IsOfKind w.query w.base
  pub pins : Ordered PinsDiffer m.pins
  pub follows : Ordered FollowsDiffer m.follows
  pub words : IsNamedByWords m

-- at first no graph is begun, and nothing is watched, pinned or followed
abbrev pub opening : Machine
opening = record { graph = record { begun = None; objects = [] }; watches = []; pins = []; follows = [] }

-- a machine and the limit of its rows; and what is kept beside it: the table of plans, the watches that stand, with their plans and
-- their kept answers, the pins, each with a table of its own, and the follows, each with the rows that are kept of single objects
pub record Standing : Type 0 where
  pub machine : Machine
  pub limit : ℕ
  pub table : Table
  pub watches : List Watch
  pub pins : List Held
  pub follows : List Follow

-- what a session of these parts stands for
abbrev pub stood : Graph → ℕ → Table → List Watch → List Held → List Follow → Standing
stood g limit table watches pins follows = record {
  machine = record { graph = g; watches = all_plain watches; pins = plain_pins pins; follows = plain_follows follows };
  limit = limit;
  table = table;
  watches = watches;
  pins = pins;
  follows = follows;
}

-- the reply to a line, and the machine after it
pub record Turn : Type 0 where
  pub reply : Reply
  pub next : Machine

-- the machine after a reply: a watch that is shown is fresh if its answer was found; a tick moves the bases of the watches; any
-- other reply leaves the machine
abbrev pub after : Machine → Reply → Machine
after m Silent = m
after m (Bad code) = m
after m (Refused rule) = m
after m Wide = m
after m (Rows answer) = m
after m (Counted counts) = m
after m (Shown place found) = record m { watches = marked_at place (is_some found) m.watches }
after m (OfPin place answer) = m
after m (PerWatch found) = record m { watches = all_moved m.watches found }

-- the machine gives this reply
abbrev pub told : Machine → Reply → Turn
told m reply = record { reply = reply; next = after m reply }

-- nothing is said, and the machine becomes this one
abbrev pub quiet_turn : Machine → Turn
quiet_turn m = told m Silent

-- refused by the first of these rules that is broken, and nothing changes
pub record Refuses (m : Machine) (broken : RuleCode → Type 0) (rules : List RuleCode) (t : Turn) : Type 0 where
  pub rule : RuleCode
  pub first : FirstOf broken rules rule
  pub is : t ≡ told m (Refused rule)

-- the edit breaks no rule and is made, and what it touches takes the marks of the watches that can depend on it
pub record Makes (m : Machine) (edit : Edit) (t : Turn) : Type 0 where
  pub graph : Graph
  pub touch : Touch
  pub makes : MakesGraph m.graph edit graph touch
  pub watches : List PlainWatch
  pub marked : AreMarkedAfter touch m.watches watches
  pub is : t ≡ quiet_turn (record m { graph = graph; watches = watches })

-- the text is asked
pub record AsksText (limit : ℕ) (m : Machine) (text : List ℕ) (t : Turn) : Type 0 where
  pub reply : Reply
  pub replies : IsReply m.graph limit text reply
  pub is : t ≡ told m reply

-- the first arrivals, the last departures or the counts of the text are wanted
pub record WantsText (limit : ℕ) (m : Machine) (wanted : Wanted) (text : List ℕ) (t : Turn) : Type 0 where
  pub reply : Reply
  pub replies : IsReplyWanted m.graph limit wanted text reply
  pub is : t ≡ told m reply

-- the query that the text reads as breaks no rule, and is watched from now on, behind the others
pub record AddsWatch (m : Machine) (name : Word) (q : QueryTerm) (t : Turn) : Type 0 where
  pub unbroken : NoneOf (WatchBreaks m.graph m.watches name q) watch_rules
  pub is : t ≡ quiet_turn (record m { watches = m.watches ++ new_watch name q ∷ [] })

-- a query is to be watched: it is refused, or watched
abbrev pub WatchesQuery : Machine → Word → QueryTerm → Turn → Type 0
WatchesQuery m name q t = Refuses m (WatchBreaks m.graph m.watches name q) watch_rules t ⊎ AddsWatch m name q t

-- the text is to be watched: its first fault is told; or the query that it reads as is refused, or watched
abbrev pub WatchesText : Machine → Word → List ℕ → Turn → Type 0
WatchesText m name text t = ((code : TextCode) × FaultOf text code × (t ≡ told m (Bad code))) ⊎ ((q : QueryTerm) × Reads text q × WatchesQuery m name q t)

-- the name breaks no rule, and what is found for the query of its watch is told
pub record ShowsWatch (limit : ℕ) (m : Machine) (name : Word) (t : Turn) : Type 0 where
  pub unbroken : NoneOf (NameBreaks m.graph m.watches name) name_rules
  pub place : ℕ
  pub watch : PlainWatch
  pub at : slice_get m.watches place ≡ Some watch
  pub named : watch.name ≡ name
  pub found : Option Answered
  pub finds : FindsFor m.graph limit watch.query found
  pub is : t ≡ told m (Shown place found)

-- a name's watch is to be shown: the name is refused, or the watch is shown
abbrev pub ShowsName : ℕ → Machine → Word → Turn → Type 0
ShowsName limit m name t = Refuses m (NameBreaks m.graph m.watches name) name_rules t ⊎ ShowsWatch limit m name t

-- the name breaks no rule, its watch is gone, and the order of the others stays
pub record DropsWatch (m : Machine) (name : Word) (t : Turn) : Type 0 where
  pub unbroken : NoneOf (NameBreaks m.graph m.watches name) name_rules
  pub is : t ≡ quiet_turn (record m { watches = without name m.watches })

-- a name's watch is to go: the name is refused, or the watch goes
abbrev pub DropsName : Machine → Word → Turn → Type 0
DropsName m name t = Refuses m (NameBreaks m.graph m.watches name) name_rules t ⊎ DropsWatch m name t

-- the tick breaks no rule, and what it finds of each watch is told
pub record TicksAll (limit : ℕ) (m : Machine) (t : Turn) : Type 0 where
  pub unbroken : NoneOf (TickBreaks m.graph) tick_rules
  pub found : List Ticked
  pub finds : AreTicked m.graph limit m.watches found
  pub is : t ≡ told m (PerWatch found)

-- a tick is refused, or told
abbrev pub TicksOrNot : ℕ → Machine → Turn → Type 0
TicksOrNot limit m t = Refuses m (TickBreaks m.graph) tick_rules t ⊎ TicksAll limit m t

-- the name breaks no rule, and the graph as it stands is pinned under it, behind the other pins
pub record OpensPin (m : Machine) (name : Word) (t : Turn) : Type 0 where
  pub unbroken : NoneOf (OpenBreaks m.graph m.pins name) open_rules
  pub is : t ≡ quiet_turn (record m { pins = m.pins ++ new_pin name m.graph ∷ [] })

-- a pin is to be opened: the name is refused, or the pin opened
abbrev pub OpensName : Machine → Word → Turn → Type 0
OpensName m name t = Refuses m (OpenBreaks m.graph m.pins name) open_rules t ⊎ OpensPin m name t

-- the name breaks no rule, its pin is gone, and the order of the others stays
pub record ClosesPin (m : Machine) (name : Word) (t : Turn) : Type 0 where
  pub unbroken : NoneOf (PinBreaks m.graph m.pins name) name_rules
  pub is : t ≡ quiet_turn (record m { pins = without_pin name m.pins })

-- a pin is to be closed: the name is refused, or the pin closed
abbrev pub ClosesName : Machine → Word → Turn → Type 0
ClosesName m name t = Refuses m (PinBreaks m.graph m.pins name) name_rules t ⊎ ClosesPin m name t

-- the name breaks no rule, and the reply to the query on the graph of its pin is told
pub record AsksPin (limit : ℕ) (m : Machine) (name : Word) (q : QueryTerm) (t : Turn) : Type 0 where
  pub unbroken : NoneOf (PinBreaks m.graph m.pins name) name_rules
  pub place : ℕ
  pub pin : Pin
  pub at : slice_get m.pins place ≡ Some pin
  pub named : pin.name ≡ name
  pub reply : Reply
  pub replies : IsReplyTo pin.graph limit q reply
  pub is : t ≡ told m (of_pin place reply)

-- a query is asked of the pin of a name: the name is refused, or the reply on the pin's graph is told
abbrev pub AsksPinQuery : ℕ → Machine → Word → QueryTerm → Turn → Type 0
AsksPinQuery limit m name q t = Refuses m (PinBreaks m.graph m.pins name) name_rules t ⊎ AsksPin limit m name q t

-- a text is asked of the pin of a name: its first fault is told; or the query that it reads as is asked
abbrev pub AsksPinText : ℕ → Machine → Word → List ℕ → Turn → Type 0
AsksPinText limit m name text t = ((code : TextCode) × FaultOf text code × (t ≡ told m (Bad code))) ⊎ ((q : QueryTerm) × Reads text q × AsksPinQuery limit m name q t)

-- the query breaks no rule, and is followed from now on, behind the others
pub record AddsFollow (m : Machine) (name : Word) (q : QueryTerm) (t : Turn) : Type 0 where
  pub unbroken : NoneOf (FollowBreaks m.graph m.follows name q) watch_rules
  pub is : t ≡ quiet_turn (record m { follows = m.follows ++ followed name q ∷ [] })

-- the query names both ends of its path
abbrev pub names_both : QueryTerm → Bool
names_both q = q.first && q.last

-- a query is to be followed: where it doesn't name both ends, that is the fault of its names; else it is refused, or followed
abbrev pub FollowsQuery : Machine → Word → QueryTerm → Turn → Type 0
FollowsQuery m name q t =
    ((names_both q ≡ false) × (t ≡ told m (Bad Names))) ⊎ ((names_both q ≡ true) × (Refuses m (FollowBreaks m.graph m.follows name q) watch_rules t ⊎ AddsFollow m name q t))

-- the text is to be followed: its first fault is told; or the query that it reads as is to be followed
abbrev pub FollowsText : Machine → Word → List ℕ → Turn → Type 0
FollowsText m name text t = ((code : TextCode) × FaultOf text code × (t ≡ told m (Bad code))) ⊎ ((q : QueryTerm) × Reads text q × FollowsQuery m name q t)

-- the name breaks no rule, its follow is gone, and the order of the others stays
pub record DropsFollow (m : Machine) (name : Word) (t : Turn) : Type 0 where
  pub unbroken : NoneOf (UnfollowBreaks m.graph m.follows name) name_rules
  pub is : t ≡ quiet_turn (record m { follows = without_follow name m.follows })

-- a follow is to end: the name is refused, or the follow goes
abbrev pub UnfollowsName : Machine → Word → Turn → Type 0
UnfollowsName m name t = Refuses m (UnfollowBreaks m.graph m.follows name) name_rules t ⊎ DropsFollow m name t

-- the names break no rule, and what is found for the follow's query from the object is told
pub record TellsNear (limit : ℕ) (m : Machine) (name id : Word) (t : Turn) : Type 0 where
  pub unbroken : NoneOf (NearBreaks m.graph m.follows name id) name_rules
  pub place : ℕ
  pub follow : PlainFollow
  pub at : slice_get m.follows place ≡ Some follow
  pub named : follow.name ≡ name
  pub object : ℕ
  pub is_object : Named m.graph object id
  pub reply : Reply
  pub finds : IsFoundNear m.graph limit follow.query object reply
  pub is : t ≡ told m reply

-- a follow's rows from an object are to be told: the names are refused, or the rows are told
abbrev pub NearsName : ℕ → Machine → Word → Word → Turn → Type 0
NearsName limit m name id t = Refuses m (NearBreaks m.graph m.follows name id) name_rules t ⊎ TellsNear limit m name id t

-- the turn that a line may have which asks for this
unfoldable pub Answers : ℕ → Machine → Reading → Turn → Type 0
Answers limit m Nothing t = t ≡ quiet_turn m
Answers limit m (Changes edit) t = Refuses m (Breaks m.graph edit) (rules_of edit) t ⊎ Makes m edit t
Answers limit m (Asks text) t = AsksText limit m text t
Answers limit m (Wants wanted text) t = WantsText limit m wanted text t
Answers limit m (Watches name text) t = WatchesText m name text t
Answers limit m (Shows name) t = ShowsName limit m name t
Answers limit m (Unwatches name) t = DropsName m name t
Answers limit m Ticks t = TicksOrNot limit m t
Answers limit m (Opens name) t = OpensName m name t
Answers limit m (Closes name) t = ClosesName m name t
Answers limit m (AsksIn name text) t = AsksPinText limit m name text t
Answers limit m (Follows name text) t = FollowsText m name text t
Answers limit m (Nears name id) t = NearsName limit m name id t
Answers limit m (Unfollows name) t = UnfollowsName m name t

-- the turn of what a line is: it asks for something, or has a first fault, which is told
unfoldable pub TurnOf : ℕ → Machine → Result Reading TextCode → Turn → Type 0
TurnOf limit m (Ok reading) t = Answers limit m reading t
TurnOf limit m (Err code) t = t ≡ told m (Bad code)

-- the turn that a line may have which is this
pub record Replies (limit : ℕ) (m : Machine) (Is : Result Reading TextCode → Type 0) (t : Turn) : Type 0 where
  pub what : Result Reading TextCode
  pub line_of : Is what
  pub turn : TurnOf limit m what t
