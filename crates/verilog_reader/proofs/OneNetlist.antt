-- A text denotes at most one netlist: the names of its nets are given and distinct, so the name of a bit tells its number. What
-- it declares is one list at most.
use Rattle.std.proofs.Common.{◌≡◌, ℕ, ◌<◌, List, [], ◌∷◌, length, map, refl, sym, ap, ap₂, ◌∙◌, subst, arith}
use Rattle.std.specs.Prelude.{All, slice_index_or}
use Rattle.std.proofs.lemmas.List.{length-map, get_or-map}
use Rattle.std.proofs.lemmas.List.Elements.{All-tail, All-head}
use Rattle.base_types.specs.declared.span.Span.{Span}
use Rattle.netlist_core.specs.declared.netlist.NetId.{NetId}
use Rattle.netlist_core.specs.declared.netlist.Bit.{Bit}
use Rattle.netlist_core.specs.declared.netlist.Bit.TheVariants.{Net, Zero, One, Unknown}
use Rattle.netlist_core.specs.declared.netlist.NetName.{NetName}
use Rattle.netlist_core.specs.declared.netlist.Expr.{Expr}
use Rattle.netlist_core.specs.declared.netlist.Port.{Port}
use Rattle.netlist_core.specs.declared.netlist.Assign.{Assign}
use Rattle.netlist_core.specs.declared.netlist.Connection.{Connection}
use Rattle.netlist_core.specs.declared.netlist.Instance.{Instance}
use Rattle.netlist_core.specs.declared.netlist.Netlist.{Netlist}
use Rattle.netlist_core.specs.Netlists.{NamedBit, Named, Low, High, Undefined, named_bit, plain_of, AreDistinct, IsBitWithin, IsAssign, IsInstance, IsNetlist}
use Rattle.verilog_syntax.specs.declared.reading.Placed.{Placed}
use Rattle.verilog_syntax.proofs.Modules.{one_module}
use Rattle.verilog_names.specs.Declarations.{declarations}
use Rattle.verilog_checks.specs.Faults.{IsFaultless}
use Rattle.verilog_reader.specs.Denoted.{SeenExpression, SeenPort, SeenAssign, SeenConnection, SeenInstance, seen_expression, seen_port, seen_assign, seen_connection, seen_instance, IsNetlistOf, DenotesNetlist, OneDeclaredLaw}

-- two lists are one, where what is seen of them is and tells each member
same_lists : {X Y : Type 0} (seen : X → Y) (Good : X → Type 0) → ((x y : X) → Good x → Good y → seen x ≡ seen y → x ≡ y)
    → (xs ys : List X) → All Good xs → All Good ys → map seen xs ≡ map seen ys → xs ≡ ys
same_lists seen Good tells [] [] gx gy e = refl
same_lists seen Good tells [] (y ∷ ys) gx gy e = absurd cc
same_lists seen Good tells (x ∷ xs) [] gx gy e = absurd cc
same_lists seen Good tells (x ∷ xs) (y ∷ ys) gx gy e =
    let first : seen x ≡ seen y = cc in
    let others : map seen xs ≡ map seen ys = cc in
    ap₂ (λ a (bs : List _). a ∷ bs) (tells x y (All-head Good x xs gx) (All-head Good y ys gy) first)
    (same_lists seen Good tells xs ys (All-tail Good x xs gx) (All-tail Good y ys gy) others)

abbrev IsGoodPort : List NetName → Port → Type 0
IsGoodPort nets p = p.net.0 < length nets

module _ (nets : List NetName) (names : AreDistinct (map (λ (net : NetName). net.plain) nets)) where
  abbrev none : NetName
  none = record { plain = []; text = [] }

  pub net_tells : (a b : NetId) → a.0 < length nets → b.0 < length nets → plain_of nets a ≡ plain_of nets b → a ≡ b
  net_tells a b ha hb e =
      let plain = λ (net : NetName). net.plain in
      let at_a : slice_index_or (map plain nets) a.0 [] ≡ plain_of nets a = get_or-map plain nets a.0 none [] ha in
      let at_b : slice_index_or (map plain nets) b.0 [] ≡ plain_of nets b = get_or-map plain nets b.0 none [] hb in
      let len : length (map plain nets) ≡ length nets = length-map nets plain in
      let same : a.0 ≡ b.0 = names a.0 b.0 [] (omega (arith, ha, len)) (omega (arith, hb, len)) (at_a ∙ e ∙ sym at_b) in
      ap (λ (k : ℕ). record { 0 = k }) same

  abbrev Within : Bit → Type 0
  Within = IsBitWithin (length nets)

  abbrev name_in : NamedBit → List ℕ
  name_in (Named name) = name
  name_in Low = []
  name_in High = []
  name_in Undefined = []

  bit_tells : (b c : Bit) → Within b → Within c → named_bit nets b ≡ named_bit nets c → b ≡ c
  bit_tells (Net a) (Net b) ha hb e = ap Net (net_tells a b ha hb (ap name_in e))
  bit_tells (Net a) Zero ha hb e = absurd cc
  bit_tells (Net a) One ha hb e = absurd cc
  bit_tells (Net a) Unknown ha hb e = absurd cc
  bit_tells Zero (Net b) ha hb e = absurd cc
  bit_tells Zero Zero ha hb e = refl
  bit_tells Zero One ha hb e = absurd cc
  bit_tells Zero Unknown ha hb e = absurd cc
  bit_tells One (Net b) ha hb e = absurd cc
  bit_tells One Zero ha hb e = absurd cc
  bit_tells One One ha hb e = refl
  bit_tells One Unknown ha hb e = absurd cc
  bit_tells Unknown (Net b) ha hb e = absurd cc
  bit_tells Unknown Zero ha hb e = absurd cc
  bit_tells Unknown One ha hb e = absurd cc
  bit_tells Unknown Unknown ha hb e = refl

  abbrev IsGoodExpr : Expr → Type 0
  IsGoodExpr e = All Within e.bits

  expr_tells : (d e : Expr) → IsGoodExpr d → IsGoodExpr e → seen_expression nets d ≡ seen_expression nets e → d ≡ e
  expr_tells d e gd ge s =
      let bits = same_lists (named_bit nets) Within bit_tells d.bits e.bits gd ge (ap (λ (x : SeenExpression). x.bits) s) in
      let span = ap (λ (x : SeenExpression). x.span) s in
      ap₂ (λ (bits : List Bit) (span : Span). record { bits = bits; span = span }) bits span

  port_tells : (p q : Port) → IsGoodPort nets p → IsGoodPort nets q → seen_port nets p ≡ seen_port nets q → p ≡ q
  port_tells p q gp gq s =
      let net = net_tells p.net q.net gp gq (ap (λ (x : SeenPort). x.name) s) in
      ap (λ (n : NetId). record { net = n; direction = p.direction; line = p.line }) net
      ∙ ap₂ (λ direction line. record { net = q.net; direction = direction; line = line }) (ap (λ (x : SeenPort). x.direction) s) (ap (λ (x : SeenPort). x.line) s)

  assign_tells : (a b : Assign) → IsAssign (length nets) a → IsAssign (length nets) b → seen_assign nets a ≡ seen_assign nets b → a ≡ b
  assign_tells a b ga gb s =
      let left = expr_tells a.left b.left ga.left gb.left (ap (λ (x : SeenAssign). x.left) s) in
      let right = expr_tells a.right b.right ga.right gb.right (ap (λ (x : SeenAssign). x.right) s) in
      ap₂ (λ left right. record { left = left; right = right; line = a.line }) left right
      ∙ ap (λ (l : ℕ). record { left = b.left; right = b.right; line = l }) (ap (λ (x : SeenAssign). x.line) s)

  abbrev IsGoodConnection : Connection → Type 0
  IsGoodConnection c = IsGoodExpr c.expr

  connection_tells : (c d : Connection) → IsGoodConnection c → IsGoodConnection d → seen_connection nets c ≡ seen_connection nets d → c ≡ d
  connection_tells c d gc gd s =
      let expr = expr_tells c.expr d.expr gc gd (ap (λ (x : SeenConnection). x.expression) s) in
      ap₂ (λ pin expr. record { pin = pin; expr = expr }) (ap (λ (x : SeenConnection). x.pin) s) expr

  instance_tells : (i j : Instance) → IsInstance (length nets) i → IsInstance (length nets) j → seen_instance nets i ≡ seen_instance nets j → i ≡ j
  instance_tells i j gi gj s =
      let connections = same_lists (seen_connection nets) IsGoodConnection connection_tells i.connections j.connections gi.nets gj.nets (ap (λ (x : SeenInstance). x.connections) s) in
      ap₂ (λ name cell. record { name = name; cell = cell; connections = i.connections; line = i.line }) (ap (λ (x : SeenInstance). x.name) s) (ap (λ (x : SeenInstance). x.cell) s)
      ∙ ap₂ (λ connections line. record { name = j.name; cell = j.cell; connections = connections; line = line }) connections (ap (λ (x : SeenInstance). x.line) s)

same_netlists : (ps : List Placed) (n m : Netlist) → IsNetlistOf ps n → IsNetlistOf ps m → IsNetlist n → IsNetlist m → n ≡ m
same_netlists ps n m a b gn gm =
    let nets : n.nets ≡ m.nets = a.nets ∙ sym b.nets in
    let ports_within : All (IsGoodPort n.nets) m.ports = subst (λ (nets : List NetName). All (IsGoodPort nets) m.ports) (sym nets) gm.port_nets in
    let assigns_good : All (IsAssign (length n.nets)) m.assigns = subst (λ (nets : List NetName). All (IsAssign (length nets)) m.assigns) (sym nets) gm.assigns in
    let instances_good : All (IsInstance (length n.nets)) m.instances = subst (λ (nets : List NetName). All (IsInstance (length nets)) m.instances) (sym nets) gm.instances in
    let ports_seen = a.ports ∙ sym b.ports ∙ sym (ap (λ (nets : List NetName). map (seen_port nets) m.ports) nets) in
    let assigns_seen = a.assigns ∙ sym b.assigns ∙ sym (ap (λ (nets : List NetName). map (seen_assign nets) m.assigns) nets) in
    let instances_seen = a.instances ∙ sym b.instances ∙ sym (ap (λ (nets : List NetName). map (seen_instance nets) m.instances) nets) in
    let ports : n.ports ≡ m.ports = same_lists (seen_port n.nets) (IsGoodPort n.nets) (port_tells n.nets gn.names) n.ports m.ports gn.port_nets ports_within ports_seen in
    let assigns : n.assigns ≡ m.assigns = same_lists (seen_assign n.nets) (IsAssign (length n.nets)) (assign_tells n.nets gn.names) n.assigns m.assigns gn.assigns assigns_good assigns_seen in
    let instances : n.instances ≡ m.instances = same_lists (seen_instance n.nets) (IsInstance (length n.nets)) (instance_tells n.nets gn.names) n.instances m.instances gn.instances instances_good instances_seen in
    ap₂ (λ name line. record { «module» = name; line = line; nets = n.nets; declared = n.declared; ports = n.ports; assigns = n.assigns; instances = n.instances }) (a.module_name ∙ sym b.module_name) (a.line ∙ sym b.line)
    ∙ ap₂ (λ nets declared. record { «module» = m.«module»; line = m.line; nets = nets; declared = declared; ports = n.ports; assigns = n.assigns; instances = n.instances }) nets (a.declared ∙ sym b.declared)
    ∙ ap₂ (λ ports assigns. record { «module» = m.«module»; line = m.line; nets = m.nets; declared = m.declared; ports = ports; assigns = assigns; instances = n.instances }) ports assigns
    ∙ ap (λ (instances : List Instance). record { «module» = m.«module»; line = m.line; nets = m.nets; declared = m.declared; ports = m.ports; assigns = m.assigns; instances = instances }) instances

-- the statements of a text are one list
one_list : (text : List ℕ) (ps qs : List Placed) → IsFaultless text ps → IsFaultless text qs → ps ≡ qs
one_list text ps qs a b = sym ((one_module text ps a.form).1 qs b.form)

pub one_netlist : (text : List ℕ) (n m : Netlist) → DenotesNetlist text n → DenotesNetlist text m → n ≡ m
one_netlist text n m a b =
    let same : a.statements ≡ b.statements = one_list text a.statements b.statements a.reads b.reads in
    same_netlists a.statements n m a.is (subst (λ (ps : List Placed). IsNetlistOf ps m) (sym same) b.is) a.sound b.sound

pub one_declared : OneDeclaredLaw
one_declared text ds es a b =
    let same : a.statements ≡ b.statements = one_list text a.statements b.statements a.reads b.reads in
    sym a.is ∙ ap declarations same ∙ b.is
