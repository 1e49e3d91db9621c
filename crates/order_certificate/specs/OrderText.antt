-- The text of an order of memory accesses.
use Rattle.std.specs.Prelude.{ℕ, ◌*◌, ◌^◌, ◌<◌, Bool, if◌then◌else◌, List, [], ◌∷◌, ◌++◌, codes, decimal}
use Rattle.std.specs.List.{concat, flat_map}
use Rattle.rsim_base.specs.Bytes.{count_of, low_bytes, FitsIn}
use Rattle.rsim_base.specs.declared.memory.Access.{Access}
use Rattle.rsim_base.specs.declared.memory.Kind.{Kind}
use Rattle.rsim_base.specs.declared.memory.Kind.TheVariants.{Load, Store, Atomic}
use Rattle.rsim_base.specs.declared.memory.Model.{Model}
use Rattle.rsim_base.specs.declared.memory.Model.TheVariants.{Sc, Pc, Rc}
use Rattle.rsim_base.specs.declared.memory.Size.{Size}
use Rattle.rsim_base.specs.Accesses.{loads, stores}
use Rattle.order_certificate.specs.Hex.{hex}

abbrev pub model_name : Model → List ℕ
model_name Sc = codes "sc"
model_name Pc = codes "pc"
model_name Rc = codes "rc"

abbrev pub kind_letter : Kind → List ℕ
kind_letter Load = codes "L"
kind_letter Store = codes "S"
kind_letter Atomic = codes "A"

-- the numbers of an access are such that its line can hold them
pub record IsPrintable (e : Access) : Type 0 where
  pub addr : e.addr.0 < 2 ^ 64
  pub loaded : FitsIn e.size e.loaded
  pub stored : FitsIn e.size e.stored

-- a value's low bytes, in twice as many digits
abbrev pub value_text : Size → ℕ → List ℕ
value_text size value = hex (2 * count_of size) (low_bytes size value)

-- a value that the kind has, else a dash
abbrev pub value_or_dash : Bool → Size → ℕ → List ℕ
value_or_dash has size value = if has then value_text size value else codes "-"

-- the line of an access: processor, number, kind, size, address, loaded and stored value
unfoldable pub line : Access → List ℕ
line e = concat (
    decimal e.node.0 ∷ codes " " ∷ decimal e.index ∷ codes " " ∷ kind_letter e.kind ∷ codes " " ∷ decimal (count_of e.size)
    ∷ codes " " ∷ hex 16 e.addr.0 ∷ codes " " ∷ value_or_dash (loads e.kind) e.size e.loaded
    ∷ codes " " ∷ value_or_dash (stores e.kind) e.size e.stored ∷ codes "\n" ∷ [])

-- what stands before the accesses, and behind them
unfoldable pub heading : Model → ℕ → List ℕ
heading model n = concat (codes "rsim order 1\nmodel " ∷ model_name model ∷ codes "\nprocessors " ∷ decimal n ∷ codes "\n" ∷ [])

unfoldable pub ending : List ℕ → List ℕ
ending retired = concat (codes "end" ∷ flat_map (λ count. codes " " ++ decimal count) retired ∷ codes "\n" ∷ [])

-- the order of n processors under a model, with the steps that each of them retired
abbrev pub certificate : Model → ℕ → List Access → List ℕ → List ℕ
certificate model n order retired = heading model n ++ flat_map line order ++ ending retired
