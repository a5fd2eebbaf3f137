-- How the data of a scan call are spelled in tokens (IEEE 1450-1999, Call and Macro, in this profile).
use Rattle.std.specs.Prelude.{ℕ, Bool, true, List, [], ◌∷◌, ◌++◌, codes, Option, Some}
use Rattle.base_types.specs.Names.{plain_name}
use Rattle.token_forms.specs.Classes.{But}
use Rattle.token_forms.specs.Forms.{Form, text, key, made, ◌◂◌, ◌or◌, gathered}
use Rattle.stil_syntax.specs.declared.item.Item.{Item}
use Rattle.stil_syntax.specs.declared.item.Entry.{Entry}
use Rattle.stil_syntax.specs.declared.item.Entry.TheVariants as entries
use Rattle.stil_syntax.specs.Names.{name}

-- any token will do
abbrev pub any : List ℕ → Bool
any text = true

-- what data never has
abbrev pub ends_data : List (List ℕ)
ends_data = codes ";" ∷ codes "{" ∷ codes "}" ∷ []

-- a token of data
abbrev pub data_token : Form (List ℕ)
data_token = text (But ends_data) any

-- a name without its backslashes, and no data yet
abbrev pub fresh_item : List ℕ → Item
fresh_item n = record { name = plain_name n; «data» = [] }

-- the tokens of data in order, with a blank behind each
abbrev pub put_token : Item → List ℕ → Option Item
put_token item token = Some (record { name = item.name; «data» = item.data ++ (token ++ 32 ∷ []) })

-- name = data ;
unfoldable pub item : Form Item
item = gathered (made fresh_item (name ◂ "=")) put_token data_token ◂ ";"

-- an item, or an empty one
unfoldable pub entry : Form Entry
entry = made (λ nothing. entries.Empty) (key ";") or made entries.Given item

-- the items in order; those that are empty don't count
abbrev pub put_entry : List Item → Entry → Option (List Item)
put_entry items entries.Empty = Some items
put_entry items (entries.Given item) = Some (items ++ item ∷ [])

-- { item .. }
unfoldable pub block : Form (List Item)
block = gathered (made (λ nothing. []) (key "{")) put_entry entry ◂ "}"

-- what stands behind the name of a scan call: ;    { item .. }
unfoldable pub call_end : Form (List Item)
call_end = made (λ nothing. []) (key ";") or block
