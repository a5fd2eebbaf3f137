-- What a text's table is, where toml takes the text and where it refuses it.
use Rattle.std.proofs.Common.{◌≡◌, ℕ, Bool, true, false, List, Some, None, Err, refl, ap, ◌∙◌}
use Rattle.std.specs.Prelude.{IsUtf8, if◌then◌else◌}
use Rattle.std.specs.Str.{is_utf8}
use Rattle.std.proofs.lemmas.Str.{IsUtf8-from_is_utf8, is_utf8-from_IsUtf8}
use Rattle.base_types.specs.declared.fault.FileKind.TheVariants.{Table as in_table}
use Rattle.base_types.specs.declared.kind.Kind.TheVariants.{TableSyntax}
use Rattle.base_types.specs.declared.fault.Spot.TheVariants.{Nowhere}
use Rattle.toml.specs.Data.{Members}
use Rattle.toml.specs.Parse.{parse_document}
use Rattle.cell_table.specs.Cells.{document_at, cells_at, document_of, table_of}

pub taken : (text : List ℕ) (document : Members) → IsUtf8 text → parse_document text ≡ Some document → table_of text ≡ document_of document
unfolding table_of
taken text document utf8 read = ap (λ (b : Bool). cells_at (if b then parse_document text else None)) (is_utf8-from_IsUtf8 text utf8) ∙ ap cells_at read

pub refused : (text : List ℕ) → (IsUtf8 text → parse_document text ≡ None) → table_of text ≡ Err (record { kind = TableSyntax; file = in_table; spot = Nowhere })
unfolding table_of
refused text nothing =
    let cases : (b : Bool) → (b ≡ true → parse_document text ≡ None) → cells_at (if b then parse_document text else None) ≡ Err (record { kind = TableSyntax; file = in_table; spot = Nowhere })
    = λ b. elim b as (λ b. (b ≡ true → parse_document text ≡ None) → cells_at (if b then parse_document text else None) ≡ Err (record { kind = TableSyntax; file = in_table; spot = Nowhere })) [
      | true ↦ λ h. ap cells_at (h refl)
      | false ↦ λ h. refl
    ]
    in cases (is_utf8 text) (λ e. nothing (IsUtf8-from_is_utf8 text e))

pub read_at : (text : List ℕ) (document : Members) → IsUtf8 text → parse_document text ≡ Some document → document_at text ≡ Some document
read_at text document utf8 read = ap (λ (b : Bool). if b then parse_document text else None) (is_utf8-from_IsUtf8 text utf8) ∙ read

pub unread : (text : List ℕ) → (IsUtf8 text → parse_document text ≡ None) → document_at text ≡ None
unread text nothing =
    let cases : (b : Bool) → (b ≡ true → parse_document text ≡ None) → (if b then parse_document text else None) ≡ None
    = λ b. elim b as (λ b. (b ≡ true → parse_document text ≡ None) → (if b then parse_document text else None) ≡ None) [
      | true ↦ λ h. h refl
      | false ↦ λ h. refl
    ]
    in cases (is_utf8 text) (λ e. nothing (IsUtf8-from_is_utf8 text e))
