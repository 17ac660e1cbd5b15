-- How reduce merges events, by their top-level fields.
use Rattle.std.specs.Prelude.{◌-◌, ◌^◌, nat_le, Bool, false, ℤ, pos, negsuc, ◌+ℤ◌, int_lt, Option, Some, None, List, [], ◌∷◌, ◌++◌, if◌then◌else◌}
use Rattle.std.specs.List.{list_any}
use Rattle.vx_value.specs.Datum.{Datum, Null, Whole, Words, Items, data_of, data_list, NamedDatum, depth}
use Rattle.vx_value.specs.Texts.{ByteString, same_text}
use Rattle.vx_value.specs.Events.{value_under, with_field}
use Rattle.vx_value.specs.declared.event.Event.{Event}
use Rattle.vx_condition.specs.declared.how.How.{How}
use Rattle.vx_condition.specs.declared.how.How.TheVariants.{Discard, Retain, Sum, Max, Min, Concat, ConcatNewline, ConcatRaw, Array}
use Rattle.vx_condition.specs.declared.strategy.Strategy.{Strategy}

-- a number, held at the ends of 64 bits with a sign
abbrev pub held_whole : ℤ → ℤ
held_whole z =
    if int_lt (pos (2 ^ 63 - 1)) z then pos (2 ^ 63 - 1)
    else (if int_lt z (negsuc (2 ^ 63 - 1)) then negsuc (2 ^ 63 - 1) else z)

-- what a function gives of two whole numbers, and else the first value
abbrev pub of_wholes : (ℤ → ℤ → ℤ) → Datum → Datum → Datum
of_wholes f (Whole a) (Whole b) = Whole (f a b)
of_wholes f s v = s

-- two texts with one between, and else the first value
abbrev pub of_texts : ByteString → Datum → Datum → Datum
of_texts between (Words a) (Words b) = Words (a ++ (between ++ b))
of_texts between s v = s

-- a value, unless it is null
abbrev pub unless_null : Datum → Datum → Datum
unless_null s Null = s
unless_null s v = v

-- a value as it stands in a list; one of depth 31 would be too deep there
abbrev pub listed : Datum → Datum
listed v = if nat_le (depth v) 30 then v else Null

-- a list with one value more
abbrev pub with_item : Datum → Datum → Datum
with_item (Items ds) v = Items (data_of (data_list ds ++ listed v ∷ []))
with_item s v = s

abbrev pub added : ℤ → ℤ → ℤ
added a b = held_whole (a +ℤ b)

-- what a group's value and an event's give
abbrev pub combined : Option How → Datum → Datum → Datum
combined None s v = of_wholes added s v
combined (Some Discard) s v = s
combined (Some Retain) s v = unless_null s v
combined (Some Sum) s v = of_wholes added s v
combined (Some Max) s v = of_wholes (λ a b. if int_lt a b then b else a) s v
combined (Some Min) s v = of_wholes (λ a b. if int_lt b a then b else a) s v
combined (Some Concat) s v = of_texts (32 ∷ []) s v
combined (Some ConcatNewline) s v = of_texts (10 ∷ []) s v
combined (Some ConcatRaw) s v = of_texts [] s v
combined (Some Array) s v = with_item s v

-- what a field holds that comes for the first time
abbrev pub begun : Option How → Datum → Datum
begun (Some Array) v = Items (data_of (listed v ∷ []))
begun how v = v

-- the strategy of a field: the first with its name
abbrev pub strategy_of : List Strategy → ByteString → Option How
strategy_of [] name = None
strategy_of (s ∷ strategies) name = if same_text s.field name then Some s.how else strategy_of strategies name

-- whether a name is the first of some path
abbrev pub is_first_of : ByteString → List ByteString → Bool
is_first_of name [] = false
is_first_of name (first ∷ rest) = same_text first name

-- whether a field tells groups apart, so that it keeps the value that it came with
abbrev pub is_grouping : List (List ByteString) → ByteString → Bool
is_grouping group_by name = list_any (is_first_of name) group_by

-- the value of a field of an event in a group that has this one or none so far
abbrev pub merged_value : List (List ByteString) → List Strategy → NamedDatum → Option Datum → Datum
merged_value group_by strategies field None = if is_grouping group_by field.name then field.value else begun (strategy_of strategies field.name) field.value
merged_value group_by strategies field (Some s) = if is_grouping group_by field.name then s else combined (strategy_of strategies field.name) s field.value

-- a group's fields with those of an event
abbrev pub merged_with : List (List ByteString) → List Strategy → List NamedDatum → List NamedDatum → List NamedDatum
merged_with group_by strategies group [] = group
merged_with group_by strategies group (field ∷ rest) =
    merged_with group_by strategies (with_field group field.name (merged_value group_by strategies field (value_under group field.name))) rest

-- the fields of events, merged in order with those of a group
abbrev pub merged_onto : List (List ByteString) → List Strategy → List NamedDatum → List Event → List NamedDatum
merged_onto group_by strategies group [] = group
merged_onto group_by strategies group (e ∷ es) = merged_onto group_by strategies (merged_with group_by strategies group e.fields) es

-- the event that some events are merged to
abbrev pub merged : List (List ByteString) → List Strategy → List Event → Event
merged group_by strategies es = record { fields = merged_onto group_by strategies [] es }
