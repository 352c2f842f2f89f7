-- What is written for a frame, as JSON.
use Rattle.std.specs.Prelude.{◌≡◌, ◌≤◌, ℕ, List, IsSome}
use Rattle.json.specs.Lex.{tokens}
use Rattle.json.specs.Print.{print}
use Rattle.serde_json.specs.Written.{IsInOrder}
use Rattle.serde_json.specs.Data.{Data, number, unsigned, string, array, object, no_items, item, no_members, depth as nesting}
use Rattle.serde_json.specs.Find.{as_object}

-- `[2,"<id>","<action>",{payload}]`
abbrev pub call_data : List ℕ → List ℕ → Data → Data
call_data id action payload = array (item (number (unsigned 2)) (item (string id) (item (string action) (item payload no_items))))

-- `[3,"<id>",{payload}]`
abbrev pub result_data : List ℕ → Data → Data
result_data id payload = array (item (number (unsigned 3)) (item (string id) (item payload no_items)))

-- `[4,"<id>","<code>","<description>",{}]`
abbrev pub error_data : List ℕ → List ℕ → List ℕ → Data
error_data id code description = array (item (number (unsigned 4)) (item (string id) (item (string code) (item (string description) (item (object no_members) no_items)))))

-- a text of a value with no blanks between its tokens: the items and members are in the value's
-- order, its integers in decimal, and its floats in digits that the text chooses
pub record IsCompact (text : List ℕ) (d : Data) : Type 0 where
  pub compact : text ≡ print (tokens text)
  pub order : IsInOrder text d

-- a payload that is read again wherever it is written: an object, nested at most 100 deep
pub record IsPayload (d : Data) : Type 0 where
  pub object : IsSome (as_object d)
  pub depth : nesting d ≤ 100
