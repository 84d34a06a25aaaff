-- The words of the rules that a line can break.
use Rattle.std.specs.Prelude.{ℕ, List, codes}
use Rattle.itpg_base.specs.declared.rule_code.RuleCode.{RuleCode}
use Rattle.itpg_base.specs.declared.rule_code.RuleCode.TheVariants.{NoGraph, Again, Taken, Unknown, Kind, Backwards, Horizon, Ends, Absent, Held, Incident, Full, GraphName, Narrow}

-- the word of each rule
abbrev pub rule_word : RuleCode → List ℕ
rule_word NoGraph = codes "nograph"
rule_word Again = codes "again"
rule_word Taken = codes "taken"
rule_word Unknown = codes "unknown"
rule_word Kind = codes "kind"
rule_word Backwards = codes "backwards"
rule_word Horizon = codes "horizon"
rule_word Ends = codes "ends"
rule_word Absent = codes "absent"
rule_word Held = codes "held"
rule_word Incident = codes "incident"
rule_word Full = codes "full"
rule_word GraphName = codes "graphname"
rule_word Narrow = codes "narrow"
