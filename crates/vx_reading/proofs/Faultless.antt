-- What holds of each component of a document without faults.
use Rattle.std.proofs.Common.{◌≡◌, Bool, true, false, List, [], ◌∷◌, Option, Some, None, refl, subst}
use Rattle.std.specs.Prelude.{codes, if◌then◌else◌, option_and_then}
use Rattle.std.specs.List.{AllByRecursion, flat_map}
use Rattle.toml.specs.Data.{Data, table, as_str, get}
use Rattle.vx_value.specs.Texts.{ByteString}
use Rattle.vx_reading.specs.declared.kind.Kind.{Kind}
use Rattle.vx_reading.specs.Components.{Part, parts, kind_of, type_in, first_stdin}
use Rattle.vx_reading.specs.Diagnostics.{diagnostics, part_diagnostic, part_diagnostics, type_diagnostics, text_diagnostics, named_diagnostics, kind_diagnostics}
use Rattle.vx_reading.specs.Judging.{is_table}
use Rattle.vx_reading.specs.Options.{kind_named}
use Rattle.vx_reading.proofs.Few.{none_left, none_right, parts_faultless}

-- a value without a table has nothing under a name
typed_table : (value observed : Data) → get (codes "type") value ≡ Some observed → is_table value ≡ true
typed_table (table ms) observed is = refl
typed_table value observed is = cc

-- what follows where nothing is wrong with a component of a type, by what it has
module _ (kind : Kind) (P : Part → Type 0) (holds : (first : Option ByteString) (part : Part) → kind_diagnostics first part kind ≡ [] → P part) where
  of_part : (root : Data) (first : Option ByteString) (part : Part) → part_diagnostics root first part ≡ [] → kind_of part ≡ Some kind → P part
  of_part root first part none is = go (type_in part.value) refl is
    where
      typed : (b : Bool) → is_table part.value ≡ b → b ≡ true → type_diagnostics first part (type_in part.value) ≡ []
      typed true there so =
          subst (λ (b : Bool). (if b then type_diagnostics first part (type_in part.value) else []) ≡ []) there (none_right (part_diagnostic root part) _ none)
      typed false there so = cc

      named : (observed : Data) → type_in part.value ≡ Some observed → (o : Option ByteString) → as_str observed ≡ o → option_and_then (kind_named part.class) o ≡ Some kind → P part
      named observed at None str called = cc
      named observed at (Some text) str called =
          let faultless = typed (is_table part.value) refl (typed_table part.value observed at) in
          holds first part
          (subst (λ (k : Option Kind). named_diagnostics first part k ≡ []) called
          (subst (λ (o : Option ByteString). text_diagnostics first part o ≡ []) str
          (subst (λ (o : Option Data). type_diagnostics first part o ≡ []) at faultless)))

      go : (o : Option Data) → type_in part.value ≡ o → option_and_then (kind_named part.class) (option_and_then as_str o) ≡ Some kind → P part
      go None at called = cc
      go (Some observed) at called = named observed at (as_str observed) refl called

  of_all : (root : Data) (first : Option ByteString) (all : List Part) → flat_map (part_diagnostics root first) all ≡ [] → AllByRecursion (λ (part : Part). kind_of part ≡ Some kind → P part) all
  of_all root first [] none = tt
  of_all root first (part ∷ rest) none = (
    of_part root first part (none_left (part_diagnostics root first part) _ none),
    of_all root first rest (none_right (part_diagnostics root first part) _ none),
  )

  -- it holds of each component of that type
  pub each_faultless : (root : Data) → diagnostics root ≡ [] → AllByRecursion (λ (part : Part). kind_of part ≡ Some kind → P part) (parts root)
  each_faultless root none =
      of_all root (first_stdin root) (parts root) (parts_faultless root none)
