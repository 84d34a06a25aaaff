-- The names that the members of the objects have.
use Rattle.std.specs.Prelude.{ℕ, List, codes}
use Rattle.json_port.specs.declared.key.Key.{Key}

-- the word of each key
abbrev pub key_word : Key → List ℕ
key_word Key.Op = codes "op"
key_word Key.Name = codes "name"
key_word Key.Lo = codes "lo"
key_word Key.Hi = codes "hi"
key_word Key.Id = codes "id"
key_word Key.Labels = codes "labels"
key_word Key.Source = codes "source"
key_word Key.Target = codes "target"
key_word Key.From = codes "from"
key_word Key.To = codes "to"
key_word Key.Prop = codes "prop"
key_word Key.Value = codes "value"
key_word Key.Line = codes "line"
