-- Each global of a shaped unit without faults is well-formed.
use Rattle.std.proofs.Common.{Bool, true, false, List, [], ◌∷◌, Option, Some, None, refl, arith}
use Rattle.std.specs.Prelude.{option_map}
use Rattle.c_tree.specs.declared.tree.Ty.{Ty}
use Rattle.c_tree.specs.declared.unit.Spot.{Spot}
use Rattle.c_tree.specs.declared.unit.RawExpr.{RawExpr}
use Rattle.c_tree.specs.declared.unit.RawShape.{RawShape}
use Rattle.c_tree.specs.declared.unit.RawShape.TheVariants as shape
use Rattle.c_tree.specs.declared.unit.RawTop.{RawTop}
use Rattle.c_tree.specs.declared.unit.RawTop.TheVariants as top
use Rattle.c_tree.specs.Checking.Constants.{declared_length, shape_length, constant_value}
use Rattle.c_tree.specs.Checking.Naming.{File, with_global, behind_top, shape_values, globals_of}
use Rattle.c_tree.specs.Keeping.WellFormed.{IsLength, WellFormedGlobal, WellFormedGlobals}
use Rattle.c_tree.specs.Checking.Uses.{constant_uses, constants_uses, length_uses, declared_at, sized_use, global_uses, outer_uses, top_uses, tops_uses}
use Rattle.typed_laws.specs.Shaped.{ShapedShape, ShapedTops}
use Rattle.typed_laws.proofs.Faultless.{AllClean, clean_parts}
use Rattle.typed_laws.proofs.Formed.ConstantRanges.{number_in, numbers_in, length_numbers}

outer_is : (f : File) (x : Spot) (e : Option RawExpr) → AllClean (outer_uses f x e) → IsLength (option_map (λ l. declared_length (Some l) None) e)
outer_is f x None clean = tt
outer_is f x (Some e) clean =
    (clean_parts (constant_uses f.known e) (declared_at f.known 1 x ∷ (sized_use x (Some e) None false ∷ [])) clean).1.1.0.0

pub outer_formed : (f : File) (constant_value : Bool) (t : Ty) (x : Spot) (e : Option RawExpr) → AllClean (outer_uses f x e)
    → WellFormedGlobal (record { name = x.name; ty = t; length = option_map (λ l. declared_length (Some l) None) e; outer = true; values = [] })
outer_formed f constant_value t x e clean =
    record { array = outer_is f x e clean; numbers = tt; count = omega arith; outside = refl }

pub inner_formed : (f : File) (constant_value : Bool) (t : Ty) (x : Spot) (sh : RawShape) → ShapedShape sh → AllClean (global_uses f constant_value x sh)
    → WellFormedGlobal (record { name = x.name; ty = t; length = shape_length sh; outer = false; values = shape_values t sh })
inner_formed f constant_value t x (shape.Scalar None) shaped clean =
    record { array = tt; numbers = tt; count = omega arith; outside = refl }
inner_formed f constant_value t x (shape.Scalar (Some e)) shaped clean =
    record { array = tt; numbers = (number_in t (with_global f constant_value x.name false).known e shaped clean.1, tt); count = omega arith; outside = refl }
inner_formed f constant_value t x (shape.Array e None) shaped clean =
    let parts = clean_parts (length_uses f.known e) (declared_at f.known 1 x ∷ (sized_use x e None false ∷ [])) clean in
    record { array = parts.1.1.0.0; numbers = tt; count = omega arith; outside = refl }
inner_formed f constant_value t x (shape.Array e (Some es)) shaped clean =
    let inside = with_global f constant_value x.name true in
    let parts = clean_parts (length_uses f.known e) (declared_at f.known 1 x ∷ (sized_use x e (Some es) false ∷ constants_uses inside.known es)) clean in
    record {
      array = parts.1.1.0.0;
      numbers = numbers_in t inside.known es shaped.1.1 parts.1.1.1;
      count = omega (arith, parts.1.1.0.1, length_numbers t es);
      outside = refl;
    }

pub globals_formed : (f : File) (ts : List RawTop) → ShapedTops ts → AllClean (tops_uses f ts) → WellFormedGlobals (globals_of ts)
globals_formed f [] shaped clean = tt
globals_formed f (top.Outer constant_value t x e ∷ ts) shaped clean =
    let after = behind_top f (top.Outer constant_value t x e) in
    let parts = clean_parts (outer_uses f x e) (tops_uses after ts) clean in
    (outer_formed f constant_value t x e parts.0, globals_formed after ts shaped.1 parts.1)
globals_formed f (top.Global kept constant_value t x sh ∷ ts) shaped clean =
    let after = behind_top f (top.Global kept constant_value t x sh) in
    let parts = clean_parts (global_uses f constant_value x sh) (tops_uses after ts) clean in
    (inner_formed f constant_value t x sh shaped.0 parts.0, globals_formed after ts shaped.1 parts.1)
globals_formed f (top.Func g ∷ ts) shaped clean =
    let after = behind_top f (top.Func g) in
    let parts = clean_parts (top_uses f (top.Func g)) (tops_uses after ts) clean in
    globals_formed after ts shaped.1 parts.1
