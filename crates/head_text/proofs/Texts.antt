-- The written text of a head is a head that says what is meant.
use Rattle.std.specs.Prelude.{⊤, Contains}
use Rattle.std.proofs.Common.{◌≡◌, ℕ, zero, suc, ◌+◌, ◌<◌, Bool, true, false, List, [], ◌∷◌, ◌++◌, length, map, get_or, is_some, Option, Some, None, refl, sym, ap, ◌∙◌, subst, arith}
use Rattle.std.specs.List.{flat_map, AllByRecursion as Each}
use Rattle.base_types.specs.declared.span.Span.{Span}
use Rattle.token_forms.specs.Tokens.{Token}
use Rattle.stil_tokens.specs.StilTokens.{tokens_in}
use Rattle.stil_types.specs.declared.head.ScanChainDecl.{ScanChainDecl}
use Rattle.stil_types.specs.declared.head.StilHead.{StilHead}
use Rattle.stil_blocks.specs.declared.chain.ReadChain.{ReadChain}
use Rattle.stil_blocks.specs.Chains.{chains_of}
use Rattle.stil_head.specs.Heads.{IsHead}
use Rattle.head_alike.proofs.Heads.{head_law}
use Rattle.head_text.specs.Written.{NewBit, NewChain, written_head, declared}
use Rattle.head_text.specs.Laws.{names_if, read_names, FitsChain, FitChains, IsWrittenText, TextLaw}
use Rattle.head_text.proofs.Shapes.{NameShape}
use Rattle.head_text.proofs.NewCells.{Shapes}
use Rattle.head_text.proofs.ChainRows.{FitShape}
use Rattle.head_text.proofs.ItemRows.{AllFit, decls_of}
use Rattle.head_text.proofs.ReadNames.{HasCells, read_cells, names_at}
use Rattle.head_text.proofs.Standing.{Built, built}

-- what holds of each holds of one among them
each_at : (P : List ℕ → Type 0) (xs : List (List ℕ)) (k : ℕ) (x : List ℕ) → k < length xs → get_or xs k x ≡ x → Each P xs → P x
each_at P [] k x less e each = absurd (omega arith)
each_at P (y ∷ ys) zero x less e each = subst P e each.0
each_at P (y ∷ ys) (suc k) x less e each = each_at P ys k x (omega arith) e each.1

named_shapes : (names : List (List ℕ)) (bits : List NewBit) → Each NameShape names → Each (λ (b : NewBit). Contains names b.name) bits → Shapes bits
named_shapes names [] each among = tt
named_shapes names (b ∷ bits) each among = (each_at NameShape names among.0.0 b.name among.0.1 among.0.2 each, named_shapes names bits each among.1)

pub all_fit : (names : List (List ℕ)) (cs : List ScanChainDecl) (ns : List NewChain) → Each NameShape names → FitChains names cs ns → AllFit cs ns
all_fit names [] [] each fits = tt
all_fit names [] (n ∷ ns) each fits = absurd fits
all_fit names (c ∷ cs) [] each fits = absurd fits
all_fit names (c ∷ cs) (n ∷ ns) each fits =
    let f = fits.0 in
    (record { some = f.some; few = f.few; cells = λ has. named_shapes names n.bits each (f.named has) }, all_fit names cs ns each fits.1)

shapes_if : (text : List ℕ) (at : Option Span) → HasCells (tokens_in text) at → Each NameShape (names_if text at)
shapes_if text None has = tt
shapes_if text (Some at) has = names_at text at has

each_both : (xs ys : List (List ℕ)) → Each NameShape xs → Each NameShape ys → Each NameShape (xs ++ ys)
each_both [] ys p q = q
each_both (x ∷ xs) ys p q = (p.0, each_both xs ys p.1 q)

all_shapes : (text : List ℕ) (cs : List ReadChain) → Each (λ (c : ReadChain). HasCells (tokens_in text) c.decl.cells_at) cs → Each NameShape (read_names text (decls_of cs))
all_shapes text [] each = tt
all_shapes text (c ∷ cs) each = each_both (names_if text c.decl.cells_at) (read_names text (decls_of cs)) (shapes_if text c.decl.cells_at each.0) (all_shapes text cs each.1)

pub read_shapes : (text : List ℕ) (head : StilHead) → IsHead text head → Each NameShape (read_names text head.chains)
read_shapes text head is = subst (λ (l : List ScanChainDecl). Each NameShape (read_names text l)) (sym is.chains) (all_shapes text (chains_of text) (read_cells text))

pub build : (text : List ℕ) (head : StilHead) (new : List NewChain) → IsHead text head → FitChains (read_names text head.chains) head.chains new → Built text head new
build text head new is fits = built text head new is (all_fit (read_names text head.chains) head.chains new (read_shapes text head is) fits)

pub text_law : TextLaw
text_law text head new is fits =
    let s = (build text head new is fits).stands in
    record { says = head_law text (written_head new head text) head (declared head.chains new) is s.beside; tokens = s.tokens; rising = s.rising }
