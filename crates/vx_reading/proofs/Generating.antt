-- A source without faults that makes its lines has some texts for them, and none of these has a line feed.
use Rattle.std.proofs.Common.{◌≡◌, Bool, true, false, nat_cmp, nat_le, length, List, [], ◌∷◌, ◌++◌, Option, Some, None, Ordering, Less, Equal, Greater, refl, sym, subst}
use Rattle.std.specs.Prelude.{not, ◌&&◌, ◌||◌, codes, if◌then◌else◌, option_and_then}
use Rattle.std.specs.Cmp.Lexicographic.{slice_cmp}
use Rattle.std.specs.List.{AllByRecursion, list_all, flat_map}
use Rattle.std.specs.Ordering.{match_ordering}
use Rattle.toml.specs.Data.{Data, table, Items, Members, no_members, member, as_array, as_str, get, get_member}
use Rattle.vx_value.specs.Texts.{ByteString, same_text, is_empty}
use Rattle.vx_value.proofs.Order.{observed_same, same_text-true}
use Rattle.vx_plan.proofs.Tests.{and_made, and_both}
use Rattle.vx_reading.specs.declared.item.Item.TheVariants as item
use Rattle.vx_reading.specs.declared.kind.Kind.TheVariants.{DemoLogs}
use Rattle.vx_reading.specs.declared.trouble.Trouble.TheVariants.{MissingOption}
use Rattle.vx_reading.specs.Components.{Part, parts, kind_of}
use Rattle.vx_reading.specs.Diagnostics.{Owner, diagnostics, kind_diagnostics, own_diagnostics, later_diagnostics, option_diagnostics, given_diagnostics, row_diagnostics, at_option, lacking, found_if}
use Rattle.vx_reading.specs.Judging.{pairs_of, pairs_in, items_in, Given, given, alone, is_given, is_line, is_item, are_items, is_list_of}
use Rattle.vx_reading.specs.Made.{is_unbroken}
use Rattle.vx_reading.specs.Options.{rows_of, type_row, format_row, lines_row}
use Rattle.vx_reading.specs.Plans.{text_of, texts_of, texts_at}
use Rattle.vx_reading.proofs.Faultless.{each_faultless}
use Rattle.vx_reading.proofs.Few.{none_left, none_right, right_of}

-- WHAT STANDS UNDER A NAME
-- whether what may stand under a name is a list of lines
abbrev are_there : Option Data → Bool
are_there o = elim o [ None ↦ false | Some value ↦ is_list_of item.Line 1 value ]

module _ (owner : Owner) (lead : ByteString) where
  -- one under the name of the lines is such a list
  here_fits : (value : Data) (name : ByteString) (later : List Given) → codes "lines" ≡ name →
      given_diagnostics owner lead (rows_of DemoLogs) (alone (record { name = name; value = value }) ∷ later) ≡ [] → is_list_of item.Line 1 value ≡ true
  here_fits value name later same none =
      let first =
      subst (λ (n : ByteString). given_diagnostics owner lead (rows_of DemoLogs) (alone (record { name = n; value = value }) ∷ later) ≡ []) (sym same) none in
      right_of owner (lead ++ codes "lines") (is_list_of item.Line 1 value) (none_left _ (given_diagnostics owner lead (rows_of DemoLogs) later) first)

  members_fit : (ms : Members) → given_diagnostics owner lead (rows_of DemoLogs) (given (rows_of DemoLogs) (pairs_of ms)) ≡ [] →
      is_given lines_row.place (given (rows_of DemoLogs) (pairs_of ms)) ≡ true → are_there (get_member (codes "lines") ms) ≡ true
  members_fit no_members none there = cc
  members_fit (member name value rest) none there =
      go (slice_cmp nat_cmp (codes "lines") name) refl (members_fit rest (none_right _ (given_diagnostics owner lead (rows_of DemoLogs) later) none))
    where
      later : List Given
      later = given (rows_of DemoLogs) (pairs_of rest)

      behind : same_text (codes "lines") name ≡ false → is_given lines_row.place later ≡ true
      behind differ = subst (λ (b : Bool). b || is_given lines_row.place later ≡ true) differ there

      go : (o : Ordering) → slice_cmp nat_cmp (codes "lines") name ≡ o → (is_given lines_row.place later ≡ true → are_there (get_member (codes "lines") rest) ≡ true) →
          are_there (match_ordering o (get_member (codes "lines") rest) (Some value) (get_member (codes "lines") rest)) ≡ true
      go Less is so = so (behind (sym (observed_same (codes "lines") name Less (sym is))))
      go Greater is so = so (behind (sym (observed_same (codes "lines") name Greater (sym is))))
      go Equal is so = here_fits value name later (same_text-true (codes "lines") name (sym (observed_same (codes "lines") name Equal (sym is)))) none

  value_fits : (value : Data) → given_diagnostics owner lead (rows_of DemoLogs) (given (rows_of DemoLogs) (pairs_in value)) ≡ [] →
      is_given lines_row.place (given (rows_of DemoLogs) (pairs_in value)) ≡ true → are_there (get (codes "lines") value) ≡ true
  value_fits (table ms) none there = members_fit ms none there
  value_fits value none there = cc

-- THE TEXTS OF A LIST OF LINES
each_unbroken : (values : List Data) → list_all (is_item item.Line) values ≡ true → list_all is_unbroken (flat_map text_of values) ≡ true
each_unbroken [] all = refl
each_unbroken (value ∷ rest) all = go (as_str value) (and_both (is_line value) (list_all (is_item item.Line) rest) all).0 (each_unbroken rest (and_both (is_line value) (list_all (is_item item.Line) rest) all).1)
  where
    go : (o : Option ByteString) → (elim o [ None ↦ false | Some text ↦ is_unbroken text ]) ≡ true → list_all is_unbroken (flat_map text_of rest) ≡ true →
        list_all is_unbroken ((elim o [ None ↦ [] | Some text ↦ text ∷ [] ]) ++ flat_map text_of rest) ≡ true
    go None is later = cc
    go (Some text) is later = and_made (is_unbroken text) (list_all is_unbroken (flat_map text_of rest)) is later

some_text : (values : List Data) → nat_le 1 (length values) ≡ true → list_all (is_item item.Line) values ≡ true → not (is_empty (flat_map text_of values)) ≡ true
some_text [] some all = cc
some_text (value ∷ rest) some all = go (as_str value) (and_both (is_line value) (list_all (is_item item.Line) rest) all).0
  where
    go : (o : Option ByteString) → (elim o [ None ↦ false | Some text ↦ is_unbroken text ]) ≡ true →
        not (is_empty ((elim o [ None ↦ [] | Some text ↦ text ∷ [] ]) ++ flat_map text_of rest)) ≡ true
    go None is = cc
    go (Some text) is = refl

-- whether there are some texts, and none has a line feed
abbrev are_texts : List ByteString → Bool
are_texts texts = not (is_empty texts) && list_all is_unbroken texts

texts_made : (o : Option Items) → (elim o [ None ↦ false | Some items ↦ are_items item.Line 1 (items_in items) ]) ≡ true → are_texts (texts_of o) ≡ true
texts_made None is = cc
texts_made (Some items) is =
    let both = and_both (nat_le 1 (length (items_in items))) (list_all (is_item item.Line) (items_in items)) is in
    and_made (not (is_empty (texts_of (Some items)))) (list_all is_unbroken (texts_of (Some items))) (some_text (items_in items) both.0 both.1) (each_unbroken (items_in items) both.1)

there_made : (o : Option Data) → are_there o ≡ true → are_texts (texts_of (option_and_then as_array o)) ≡ true
there_made None there = cc
there_made (Some value) there = texts_made (as_array value) there

-- WHERE NO FAULT IS FOUND
present : (owner : Owner) (path : ByteString) (b : Bool) → found_if owner path (if not b then Some MissingOption else None) ≡ [] → b ≡ true
present owner path true none = refl
present owner path false none = cc

-- the lines are given
lines_given : (owner : Owner) (lead : ByteString) (all : List Given) → option_diagnostics owner lead (rows_of DemoLogs) all ≡ [] → is_given lines_row.place all ≡ true
lines_given owner lead all none =
    let rows = none_right (given_diagnostics owner lead (rows_of DemoLogs) all) _ none in
    let behind_type = none_right (row_diagnostics owner lead all type_row) _ rows in
    let behind_format = none_right (row_diagnostics owner lead all format_row) _ behind_type in
    let of_lines = none_left (row_diagnostics owner lead all lines_row) _ behind_format in
    let there = none_left (at_option owner lead lines_row.place (lacking all lines_row)) _ of_lines in
    present owner (lead ++ codes "lines") (is_given lines_row.place all) there

-- whether the texts of a source are lines, one at least
abbrev pub has_lines : Part → Bool
has_lines part = are_texts (texts_at (codes "lines") part.value)

of_kind : (first : Option ByteString) (part : Part) → kind_diagnostics first part DemoLogs ≡ [] → has_lines part ≡ true
of_kind first part none =
    let all = given (rows_of DemoLogs) (pairs_in part.value) in
    let options = none_left (option_diagnostics _ _ (rows_of DemoLogs) all) _ (none_left (own_diagnostics part DemoLogs all) _ (none_right (later_diagnostics first part) _ none)) in
    let fit = value_fits _ _ part.value (none_left (given_diagnostics _ _ (rows_of DemoLogs) all) _ options) (lines_given _ _ all options) in
    there_made (get (codes "lines") part.value) fit

-- each source of a document without faults that makes its lines has some texts for them
pub lines_there : (root : Data) → diagnostics root ≡ [] → AllByRecursion (λ (part : Part). kind_of part ≡ Some DemoLogs → has_lines part ≡ true) (parts root)
lines_there = each_faultless DemoLogs (λ (part : Part). has_lines part ≡ true) of_kind
