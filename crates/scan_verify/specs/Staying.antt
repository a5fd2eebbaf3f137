-- The tokens of a head that stay, from any place in it (IEEE 1450-1999, ScanStructures).
use Rattle.std.specs.Prelude.{◌≡◌, ℕ, Bool, true, false, ◌&&◌, ◌==◌, if◌then◌else◌, List, [], ◌∷◌, ◌++◌, take, drop, codes}
use Rattle.std.specs.List.{flat_map}
use Rattle.std.specs.Str.{bytes_eq}
use Rattle.token_forms.specs.Tokens.{Token}
use Rattle.token_forms.specs.Parts.{token_texts}
use Rattle.stil_tokens.specs.StilStatements.{len_in, stil_statements}
use Rattle.stil_syntax.specs.Names.{is_word}
use Rattle.head_alike.specs.Erased.{erased_from, erased_statement}
use Rattle.scan_verify.specs.declared.alike.standing.Standing.{Standing}
use Rattle.scan_verify.specs.declared.alike.standing.Standing.TheVariants.{Front, Name, Quoted, Structures, Other}
use Rattle.scan_verify.specs.declared.alike.standing.Passed.{Passed}

-- the bytes of the tokens of statements that stay
abbrev pub staying : List Token → List (List ℕ)
staying ts = flat_map erased_statement (stil_statements ts)

-- in a statement of which so many blocks are open: of its other tokens these bytes stay, and of the statements behind it what stays
abbrev pub in_statement : (List Token → List (List ℕ)) → ℕ → List Token → List (List ℕ)
in_statement kept depth ts = kept (take (len_in depth ts) ts) ++ staying (drop (len_in depth ts) ts)

-- what stays behind the word of a statement, by whether this is ScanStructures
abbrev pub kept_behind : Bool → List Token → List (List ℕ)
kept_behind true = erased_from false false
kept_behind false = token_texts

-- behind a name, which is a label where a colon follows; else it may be the word ScanStructures
abbrev pub behind_name : Bool → List Token → List (List ℕ)
behind_name structures [] = []
behind_name structures (t ∷ ts) = if bytes_eq t.text (codes ":") then t.text ∷ staying ts else in_statement (kept_behind structures) 0 (t ∷ ts)

-- behind a text in " that ends at a place, which is a name alone or with the run right behind it
abbrev pub behind_quotes : ℕ → List Token → List (List ℕ)
behind_quotes end [] = []
behind_quotes end (t ∷ ts) = if is_word t.text && t.start == end then t.text ∷ behind_name false ts else behind_name false (t ∷ ts)

-- the bytes of the tokens that stay, by where the first of them stands
abbrev pub left : Standing → List Token → List (List ℕ)
left Front ts = staying ts
left (Name structures) ts = behind_name structures ts
left (Quoted end) ts = behind_quotes end ts
left (Structures depth begins skips) ts = in_statement (erased_from begins skips) depth ts
left (Other depth) ts = in_statement token_texts depth ts

-- how many blocks are open
abbrev pub depth_of : Standing → ℕ
depth_of Front = 0
depth_of (Name structures) = 0
depth_of (Quoted end) = 0
depth_of (Structures depth begins skips) = depth
depth_of (Other depth) = depth

-- whether a token stays, and where the one behind it stands
abbrev pub IsPassed : Standing → Token → Passed → Type 0
IsPassed standing t passed = (ts : List Token) → left standing (t ∷ ts) ≡ (if passed.stays then t.text ∷ left passed.behind ts else left passed.behind ts)
