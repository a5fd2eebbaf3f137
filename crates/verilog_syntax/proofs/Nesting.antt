-- Items that nest are an expression's: the test of a form, and the tree.
use Rattle.std.proofs.Common.{◌≡◌, ℕ, zero, suc, ◌+◌, ◌-◌, Bool, true, false, ◌&&◌, List, [], ◌∷◌, refl, sym, ap, ◌∙◌, arith}
use Rattle.std.specs.Prelude.{nat_lt}
use Rattle.std.specs.List.{AllByRecursion as Each}
use Rattle.std.proofs.lemmas.Bool.{eqb-true, and_parts}
use Rattle.std.proofs.lemmas.Bool.Decides.{nat_tests}
use Rattle.verilog_syntax.specs.declared.statement.Item.{Item}
use Rattle.verilog_syntax.specs.declared.statement.Item.TheVariants as items
use Rattle.verilog_syntax.specs.StatementParts.{IsName, IsDecimal, IsExpression}
use Rattle.verilog_syntax.specs.Words.{is_constant}
use Rattle.verilog_syntax.specs.Items.{nests, is_expression}
use Rattle.verilog_syntax.proofs.Trees.{Begins, Behind, begins_expression, expression_begins}

-- an operand is made of names and decimals, or a constant
abbrev pub IsItem : Item → Type 0
IsItem items.Open = Unit {0}
IsItem items.Comma = Unit {0}
IsItem items.Close = Unit {0}
IsItem (items.Name name) = IsName name
IsItem (items.Bit name index) = IsName name × IsDecimal index
IsItem (items.Part name left right) = IsName name × IsDecimal left × IsDecimal right
IsItem (items.Constant text) = is_constant text ≡ true

more_open : (depth : ℕ) (ended : Bool) (others : List Item) → nests (depth + 1) ended others ≡ nests (suc depth) ended others
more_open depth ended others = let k : depth + 1 ≡ suc depth = omega arith in ap (λ (d : ℕ). nests d ended others) k

fewer_open : (depth : ℕ) (ended : Bool) (others : List Item) → nests (suc depth - 1) ended others ≡ nests depth ended others
fewer_open depth ended others = let k : suc depth - 1 ≡ depth = omega arith in ap (λ (d : ℕ). nests d ended others) k

mutual
  begins_of : (all : List Item) (depth : ℕ) → nests depth false all ≡ true → Each IsItem all → Begins all depth
  begins_of [] depth e good = absurd cc
  begins_of (items.Open ∷ others) depth e good = begins_of others (suc depth) (sym (more_open depth false others) ∙ e) good.1
  begins_of (items.Comma ∷ others) depth e good = absurd cc
  begins_of (items.Close ∷ others) depth e good = absurd cc
  begins_of (items.Name name ∷ others) depth e good = (good.0, behind_of others depth e good.1)
  begins_of (items.Bit name index ∷ others) depth e good = (good.0, behind_of others depth e good.1)
  begins_of (items.Part name left right ∷ others) depth e good = (good.0, behind_of others depth e good.1)
  begins_of (items.Constant text ∷ others) depth e good = (good.0, behind_of others depth e good.1)

  behind_of : (all : List Item) (depth : ℕ) → nests depth true all ≡ true → Each IsItem all → Behind all depth
  behind_of [] zero e good = tt
  behind_of [] (suc depth) e good = let k = eqb-true (suc depth) 0 e in absurd (omega arith)
  behind_of (items.Open ∷ others) zero e good = absurd cc
  behind_of (items.Comma ∷ others) zero e good = absurd cc
  behind_of (items.Close ∷ others) zero e good = absurd cc
  behind_of (items.Name name ∷ others) zero e good = absurd cc
  behind_of (items.Bit name index ∷ others) zero e good = absurd cc
  behind_of (items.Part name left right ∷ others) zero e good = absurd cc
  behind_of (items.Constant text ∷ others) zero e good = absurd cc
  behind_of (items.Open ∷ others) (suc depth) e good = absurd cc
  behind_of (items.Comma ∷ others) (suc depth) e good = begins_of others (suc depth) (and_parts _ (nests (suc depth) false others) e).1 good.1
  behind_of (items.Close ∷ others) (suc depth) e good = behind_of others depth (sym (fewer_open depth true others) ∙ (and_parts _ (nests (suc depth - 1) true others) e).1) good.1
  behind_of (items.Name name ∷ others) (suc depth) e good = absurd cc
  behind_of (items.Bit name index ∷ others) (suc depth) e good = absurd cc
  behind_of (items.Part name left right ∷ others) (suc depth) e good = absurd cc
  behind_of (items.Constant text ∷ others) (suc depth) e good = absurd cc

pub nested_expression : (all : List Item) → is_expression all ≡ true → Each IsItem all → IsExpression all
nested_expression all e good = begins_expression all (begins_of all 0 e good)

-- and back
open_some : (depth : ℕ) → nat_lt 0 (suc depth) ≡ true
open_some depth = grind (arith, nat_tests)

some_open : (depth : ℕ) (b : Bool) → b ≡ true → ((true && nat_lt 0 (suc depth)) && b) ≡ true
some_open depth b e = rw (open_some depth, e) refl

mutual
  begins_nest : (all : List Item) (depth : ℕ) → Begins all depth → (nests depth false all ≡ true) × Each IsItem all
  begins_nest [] depth h = absurd h
  begins_nest (items.Open ∷ others) depth h = let r = begins_nest others (suc depth) h in (more_open depth false others ∙ r.0, (tt, r.1))
  begins_nest (items.Comma ∷ others) depth h = absurd h
  begins_nest (items.Close ∷ others) depth h = absurd h
  begins_nest (items.Name name ∷ others) depth h = let r = behind_nest others depth h.1 in (r.0, (h.0, r.1))
  begins_nest (items.Bit name index ∷ others) depth h = let r = behind_nest others depth h.1 in (r.0, (h.0, r.1))
  begins_nest (items.Part name left right ∷ others) depth h = let r = behind_nest others depth h.1 in (r.0, (h.0, r.1))
  begins_nest (items.Constant text ∷ others) depth h = let r = behind_nest others depth h.1 in (r.0, (h.0, r.1))

  behind_nest : (all : List Item) (depth : ℕ) → Behind all depth → (nests depth true all ≡ true) × Each IsItem all
  behind_nest [] zero h = (refl, tt)
  behind_nest [] (suc depth) h = absurd h
  behind_nest (items.Open ∷ others) zero h = absurd h
  behind_nest (items.Comma ∷ others) zero h = absurd h
  behind_nest (items.Close ∷ others) zero h = absurd h
  behind_nest (items.Name name ∷ others) zero h = absurd h
  behind_nest (items.Bit name index ∷ others) zero h = absurd h
  behind_nest (items.Part name left right ∷ others) zero h = absurd h
  behind_nest (items.Constant text ∷ others) zero h = absurd h
  behind_nest (items.Open ∷ others) (suc depth) h = absurd h
  behind_nest (items.Comma ∷ others) (suc depth) h = let r = begins_nest others (suc depth) h in (some_open depth (nests (suc depth) false others) r.0, (tt, r.1))
  behind_nest (items.Close ∷ others) (suc depth) h =
      let r = behind_nest others depth h in (some_open depth (nests (suc depth - 1) true others) (fewer_open depth true others ∙ r.0), (tt, r.1))
  behind_nest (items.Name name ∷ others) (suc depth) h = absurd h
  behind_nest (items.Bit name index ∷ others) (suc depth) h = absurd h
  behind_nest (items.Part name left right ∷ others) (suc depth) h = absurd h
  behind_nest (items.Constant text ∷ others) (suc depth) h = absurd h

pub expression_nests : (all : List Item) → IsExpression all → (is_expression all ≡ true) × Each IsItem all
expression_nests all good = begins_nest all 0 (expression_begins all good)
