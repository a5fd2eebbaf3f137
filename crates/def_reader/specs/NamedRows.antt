-- Rows that are found by their names.
use Rattle.std.specs.Prelude.{◌≡◌, ℕ, ◌+◌, ◌%◌, ◌≤◌, ◌<◌, true, false, List, length, take, Option, Some, None, slice_get, slice_index}
use Rattle.std.specs.Hash as fed
use Rattle.std.specs.Hash.DefaultHasher as sip
use Rattle.std.specs.Hash.FoldHasher as folding
use Rattle.std.specs.List.{fold, position}
use Rattle.std.specs.Str.{bytes_eq}
use Rattle.def_reader.specs.declared.index.Index.{Index}

-- the key of rows: SipHash-1-3 of their names
unfoldable pub key_of : {X : Type 0} → (X → List ℕ) → List X → ℕ
key_of name rows = sip.finish (fold (λ h row. sip.write h (name row)) sip.initial rows)

-- the bucket of a name, of so many: by a hash of the key and the name
unfoldable pub bucket_of : ℕ → ℕ → List ℕ → ℕ
bucket_of key count name = folding.finish (folding.write (fold folding.write folding.initial (fed.u64 key)) name) % count

-- to which place a link leads by a name: to that of its row, where this has the name, else where the row's own link leads
pub data Leads {X : Type 0} (name : X → List ℕ) (rows : List X) (links : List ℕ) (q : List ℕ) : ℕ → Option ℕ → Type 0 where
  Nowhere : Leads name rows links q 0 None
  Here : (p : ℕ) (row : X) → slice_get rows p ≡ Some row → bytes_eq (name row) q ≡ true → Leads name rows links q (p + 1) (Some p)
  Onward : (p : ℕ) (row : X) (found : Option ℕ) → slice_get rows p ≡ Some row → bytes_eq (name row) q ≡ false → Leads name rows links q (slice_index links p) found → Leads name rows links q (p + 1) found

-- so many rows as there are links are entered: by each name the link of its bucket leads to the first of them that has it
pub record AreChained {X : Type 0} (name : X → List ℕ) (key : ℕ) (heads links : List ℕ) (rows : List X) : Type 0 where
  pub some : 0 < length heads
  pub few : length links ≤ length rows
  pub back : (p : ℕ) → slice_index links p ≤ p
  pub within : (bucket : ℕ) → slice_index heads bucket ≤ length links
  pub leads : (q : List ℕ) → Leads name rows links q (slice_index heads (bucket_of key (length heads) q)) (position (λ row. bytes_eq (name row) q) (take (length links) rows))

-- the first rows are entered in an index
abbrev pub AreEntered : {X : Type 0} → (X → List ℕ) → Index → List X → Type 0
AreEntered name index rows = AreChained name index.key index.heads.items index.links.items rows

-- each row is the first of its name
abbrev pub AreApart : {X : Type 0} → (X → List ℕ) → List X → Type 0
AreApart {X} name rows = (p : ℕ) (row : X) → slice_get rows p ≡ Some row → position (λ other. bytes_eq (name other) (name row)) rows ≡ Some p

-- all rows are
pub record IsIndexOf {X : Type 0} (name : X → List ℕ) (index : Index) (rows : List X) : Type 0 where
  pub entered : AreEntered name index rows
  pub whole : length index.links.items ≡ length rows
  pub apart : index.apart ≡ true → AreApart name rows
