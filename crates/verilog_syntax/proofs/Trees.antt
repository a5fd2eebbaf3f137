-- The items of an expression, told by how many braces are open, and as a tree.
use Rattle.std.proofs.Common.{◌≡◌, ℕ, zero, suc, ◌+◌, ◌<◌, ◌≤◌, List, [], ◌∷◌, ◌++◌, length, refl, sym, ap, ◌∙◌, subst, arith, append_assoc, append-nil, length-append, true}
use Rattle.verilog_syntax.specs.declared.statement.Item.{Item}
use Rattle.verilog_syntax.specs.declared.statement.Item.TheVariants as items
use Rattle.verilog_syntax.specs.StatementParts.{IsName, IsDecimal, IsOperand, Tree, Operand, Braces, Trees, Last, More, items_of, items_of_all, HasOperands, HaveOperands, IsExpression}
use Rattle.verilog_syntax.specs.Words.{is_constant}

-- with so many braces open, the items begin with an expression or go on behind one, and end with the outermost expression
abbrev mutual
  pub Begins : List Item → ℕ → Type 0
  Begins [] depth = ⊥
  Begins (items.Open ∷ others) depth = Begins others (suc depth)
  Begins (items.Comma ∷ others) depth = ⊥
  Begins (items.Close ∷ others) depth = ⊥
  Begins (items.Name name ∷ others) depth = IsName name × Behind others depth
  Begins (items.Bit name index ∷ others) depth = (IsName name × IsDecimal index) × Behind others depth
  Begins (items.Part name left right ∷ others) depth = (IsName name × IsDecimal left × IsDecimal right) × Behind others depth
  Begins (items.Constant text ∷ others) depth = (is_constant text ≡ true) × Behind others depth

  pub Behind : List Item → ℕ → Type 0
  Behind [] zero = Unit {0}
  Behind [] (suc depth) = ⊥
  Behind (i ∷ others) zero = ⊥
  Behind (items.Open ∷ others) (suc depth) = ⊥
  Behind (items.Comma ∷ others) (suc depth) = Begins others (suc depth)
  Behind (items.Close ∷ others) (suc depth) = Behind others depth
  Behind (items.Name name ∷ others) (suc depth) = ⊥
  Behind (items.Bit name index ∷ others) (suc depth) = ⊥
  Behind (items.Part name left right ∷ others) (suc depth) = ⊥
  Behind (items.Constant text ∷ others) (suc depth) = ⊥

-- a tree stands in front, and more behind it
record FirstTree (all : List Item) (depth : ℕ) : Type 0 where
  pub tree : Tree
  pub rest : List Item
  pub is : all ≡ items_of tree ++ rest
  pub operands : HasOperands tree
  pub behind : Behind rest depth

-- trees stand in front, a brace that closes them, and more behind it
record FirstTrees (all : List Item) (depth : ℕ) : Type 0 where
  pub trees : Trees
  pub rest : List Item
  pub is : all ≡ items_of_all trees ++ items.Close ∷ rest
  pub operands : HaveOperands trees
  pub behind : Behind rest depth

operand_first : (i : Item) (others : List Item) (depth : ℕ) → IsOperand i → Behind others depth → FirstTree (i ∷ others) depth
operand_first i others depth good behind = record { tree = Operand i; rest = others; is = refl; operands = good; behind = behind }

braces_first : (others : List Item) (depth : ℕ) → FirstTrees others depth → FirstTree (items.Open ∷ others) depth
braces_first others depth inner =
    record {
      tree = Braces inner.trees;
      rest = inner.rest;
      is = ap (λ (l : List Item). items.Open ∷ l) (inner.is ∙ sym (append_assoc (items_of_all inner.trees) (items.Close ∷ []) inner.rest));
      operands = inner.operands;
      behind = inner.behind;
    }

-- behind the first tree of a list a brace closes it, or a comma stands before the others
closed_or_more : (all : List Item) (depth : ℕ) (tree : Tree) (rest : List Item) → all ≡ items_of tree ++ rest → HasOperands tree → Behind rest (suc depth)
    → ((others : List Item) → length others < length all → Begins others (suc depth) → FirstTrees others depth) → FirstTrees all depth
closed_or_more all depth tree [] is good behind later = absurd behind
closed_or_more all depth tree (items.Open ∷ others) is good behind later = absurd behind
closed_or_more all depth tree (items.Comma ∷ others) is good behind later =
    let len = ap length is ∙ length-append (items_of tree) (items.Comma ∷ others) in
    let more = later others (omega arith) behind in
    record {
      trees = More tree more.trees;
      rest = more.rest;
      is = is ∙ ap (λ (l : List Item). items_of tree ++ items.Comma ∷ l) more.is ∙ sym (append_assoc (items_of tree) (items.Comma ∷ items_of_all more.trees) (items.Close ∷ more.rest));
      operands = (good, more.operands);
      behind = more.behind;
    }
closed_or_more all depth tree (items.Close ∷ others) is good behind later = record { trees = Last tree; rest = others; is = is; operands = good; behind = behind }
closed_or_more all depth tree (items.Name name ∷ others) is good behind later = absurd behind
closed_or_more all depth tree (items.Bit name index ∷ others) is good behind later = absurd behind
closed_or_more all depth tree (items.Part name left right ∷ others) is good behind later = absurd behind
closed_or_more all depth tree (items.Constant text ∷ others) is good behind later = absurd behind

mutual
  first_tree : (n : ℕ) (all : List Item) (depth : ℕ) → length all + length all ≤ n → Begins all depth → FirstTree all depth
  first_tree n [] depth enough begins = absurd begins
  first_tree zero (items.Open ∷ others) depth enough begins = absurd (omega arith)
  first_tree (suc n) (items.Open ∷ others) depth enough begins = braces_first others depth (first_trees n others depth (omega arith) begins)
  first_tree n (items.Comma ∷ others) depth enough begins = absurd begins
  first_tree n (items.Close ∷ others) depth enough begins = absurd begins
  first_tree n (items.Name name ∷ others) depth enough begins = operand_first (items.Name name) others depth begins.0 begins.1
  first_tree n (items.Bit name index ∷ others) depth enough begins = operand_first (items.Bit name index) others depth begins.0 begins.1
  first_tree n (items.Part name left right ∷ others) depth enough begins = operand_first (items.Part name left right) others depth begins.0 begins.1
  first_tree n (items.Constant text ∷ others) depth enough begins = operand_first (items.Constant text) others depth begins.0 begins.1

  first_trees : (n : ℕ) (all : List Item) (depth : ℕ) → length all + length all + 1 ≤ n → Begins all (suc depth) → FirstTrees all depth
  first_trees zero all depth enough begins = absurd (omega arith)
  first_trees (suc n) all depth enough begins =
      let one = first_tree n all (suc depth) (omega arith) begins in
      closed_or_more all depth one.tree one.rest one.is one.operands one.behind
      (λ others shorter more. first_trees n others depth (omega arith) more)

none_behind : (all : List Item) → Behind all 0 → all ≡ []
none_behind [] behind = refl
none_behind (i ∷ others) behind = absurd behind

-- so items that begin with no brace open are those of a tree
pub begins_expression : (all : List Item) → Begins all 0 → IsExpression all
begins_expression all begins =
    let one = first_tree (length all + length all) all 0 (omega arith) begins in
    let none = none_behind one.rest one.behind in
    record { tree = one.tree; is = one.is ∙ ap (λ (l : List Item). items_of one.tree ++ l) none ∙ append-nil (items_of one.tree); operands = one.operands }

operand_begins : (i : Item) (rest : List Item) (depth : ℕ) → IsOperand i → Behind rest depth → Begins (i ∷ rest) depth
operand_begins items.Open rest depth good behind = absurd good
operand_begins items.Comma rest depth good behind = absurd good
operand_begins items.Close rest depth good behind = absurd good
operand_begins (items.Name name) rest depth good behind = (good, behind)
operand_begins (items.Bit name index) rest depth good behind = (good, behind)
operand_begins (items.Part name left right) rest depth good behind = (good, behind)
operand_begins (items.Constant text) rest depth good behind = (good, behind)

-- and back
mutual
  tree_begins : (tree : Tree) (rest : List Item) (depth : ℕ) → HasOperands tree → Behind rest depth → Begins (items_of tree ++ rest) depth
  tree_begins (Operand item) rest depth good behind = operand_begins item rest depth good behind
  tree_begins (Braces inner) rest depth good behind =
      subst (λ (l : List Item). Begins l (suc depth)) (sym (append_assoc (items_of_all inner) (items.Close ∷ []) rest)) (trees_begin inner (items.Close ∷ rest) depth good behind)

  trees_begin : (trees : Trees) (rest : List Item) (depth : ℕ) → HaveOperands trees → Behind rest (suc depth) → Begins (items_of_all trees ++ rest) (suc depth)
  trees_begin (Last tree) rest depth good behind = tree_begins tree rest (suc depth) good behind
  trees_begin (More tree others) rest depth good behind =
      subst (λ (l : List Item). Begins l (suc depth)) (sym (append_assoc (items_of tree) (items.Comma ∷ items_of_all others) rest))
      (tree_begins tree (items.Comma ∷ (items_of_all others ++ rest)) (suc depth) good.0 (trees_begin others rest depth good.1 behind))

pub expression_begins : (all : List Item) → IsExpression all → Begins all 0
expression_begins all good =
    subst (λ (l : List Item). Begins l 0) (sym (good.is ∙ sym (append-nil (items_of good.tree)))) (tree_begins good.tree [] 0 good.operands tt)
