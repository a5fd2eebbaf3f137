-- Where a component or a design pin is placed, and how it is turned (LEF/DEF 5.8).
use Rattle.std.specs.Prelude.{ℕ, List, Option, Some, None, if◌then◌else◌, codes}
use Rattle.std.specs.Str.{bytes_eq}
use Rattle.token_forms.specs.Forms.{Form, ◌&◌, made, made_if, ◌▸◌, ◌◂◌}
use Rattle.def_syntax.specs.Words.{name, integer, placing}
use Rattle.def_tokens.specs.declared.orient.Orient.{Orient}
use Rattle.def_tokens.specs.declared.orient.Orient.TheVariants as orient
use Rattle.def_syntax.specs.declared.placement.Placement.{Placement}

-- what an orientation's word makes
unfoldable pub orient_of : List ℕ → Option Orient
orient_of text =
    if bytes_eq text (codes "N") then Some orient.N
    else (if bytes_eq text (codes "W") then Some orient.W
    else (if bytes_eq text (codes "S") then Some orient.S
    else (if bytes_eq text (codes "E") then Some orient.E
    else (if bytes_eq text (codes "FN") then Some orient.FN
    else (if bytes_eq text (codes "FW") then Some orient.FW
    else (if bytes_eq text (codes "FS") then Some orient.FS
    else (if bytes_eq text (codes "FE") then Some orient.FE
    else None)))))))

-- N    W    S    E    FN    FW    FS    FE
unfoldable pub turned : Form Orient
turned = made_if orient_of name

-- PLACED ( x y ) orientation    FIXED ( x y ) orientation    COVER ( x y ) orientation
unfoldable pub placement : Form Placement
placement = made (λ p. record { x = p.1.0.0; y = p.1.0.1; orient = p.1.1 }) (placing & ("(" ▸ (integer & integer ◂ ")")) & turned)
