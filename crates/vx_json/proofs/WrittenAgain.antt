-- What was written is read again.
use Rattle.std.proofs.Common.{◌≡◌, ℕ, ◌+◌, ◌≤◌, Some, Result, Ok, Err, IfOk, IfErr, List, take, refl, sym, ◌∙◌, ap, subst, arith}
use Rattle.vx_value.specs.Texts.{ByteString}
use Rattle.vx_value.specs.Datum.{Datum, Fields, NamedDatum, named_of, named_list}
use Rattle.vx_value.specs.Events.{fields_depth}
use Rattle.vx_value.proofs.Steps.{named_list-named_of}
use Rattle.vx_json.specs.Grammar.{IsText}
use Rattle.vx_json.specs.Written.{written}
use Rattle.vx_json.specs.Writable.{IsWritable}
use Rattle.vx_json.specs.Faults.{IsEvent, IsFault, IsDeep, IsOther, IsNoObject, GivesFields, open_levels}
use Rattle.vx_value.specs.declared.event.Event.{Event}
use Rattle.vx_json.specs.declared.json_fault.JsonFault.{JsonFault}
use Rattle.vx_json.specs.declared.json_fault.JsonFault.TheVariants as fault
use Rattle.vx_json.proofs.Completeness.{text-outcome}
use Rattle.vx_json.proofs.WrittenTexts.{written-text}
use Rattle.vx_json.proofs.Shallow.{written-shallow}

same-fields : (a b : List NamedDatum) → Fields (named_of a) ≡ Fields (named_of b) → a ≡ b
same-fields a b h = let e : named_of a ≡ named_of b = cc in sym (named_list-named_of a) ∙ ap named_list e ∙ named_list-named_of b

-- the text of the fields
text-here : (bytes : ByteString) (fields : List NamedDatum) → IsWritable (Fields (named_of fields)) → bytes ≡ written (Fields (named_of fields)) → IsText bytes (Fields (named_of fields))
text-here bytes fields h e = subst (λ w. IsText w (Fields (named_of fields))) (sym e) (written-text (Fields (named_of fields)) h)

pub fields-again : (bytes : ByteString) (fields found : List NamedDatum) → IsWritable (Fields (named_of fields)) → bytes ≡ written (Fields (named_of fields)) → IsEvent bytes found → found ≡ fields
fields-again bytes fields found h e i = same-fields found fields (sym (i.only (Fields (named_of fields)) (text-here bytes fields h e)))

-- a text has one value
one-value : (bytes : ByteString) (v w : Datum) → IsText bytes v → IsText bytes w → v ≡ w
one-value bytes v w s t = same v w (sym (text-outcome bytes v s) ∙ text-outcome bytes w t)
  where
    same : (v w : Datum) → Some v ≡ Some w → v ≡ w
    same v w k = cc

no-other : (bytes : ByteString) (fields : List NamedDatum) → IsText bytes (Fields (named_of fields)) → IsOther bytes → ⊥
no-other bytes fields t o = subst IsNoObject (one-value bytes o.value (Fields (named_of fields)) o.text t) o.no_object

no-deep : (bytes : ByteString) (fields : List NamedDatum) (at : ℕ) → IsWritable (Fields (named_of fields)) → fields_depth fields ≤ 32 → bytes ≡ written (Fields (named_of fields)) → IsDeep bytes at → ⊥
no-deep bytes fields at h l e d =
    let low = subst (λ w. (k : ℕ) → open_levels (take k w) ≤ 32) (sym e) (written-shallow (Fields (named_of fields)) h l) in omega (arith, low (at + 1), d.opened)

pub no-fault : (bytes : ByteString) (fields : List NamedDatum) (f : JsonFault) → IsWritable (Fields (named_of fields)) → fields_depth fields ≤ 32 → bytes ≡ written (Fields (named_of fields)) → IsFault bytes f → f ≡ fault.WantOfMemory
no-fault bytes fields (fault.NotJson at) h l e i = absurd (i.no_text (Fields (named_of fields)) (text-here bytes fields h e))
no-fault bytes fields (fault.Deep at) h l e i = absurd (no-deep bytes fields at h l e i)
no-fault bytes fields fault.NotObject h l e i = absurd (no-other bytes fields (text-here bytes fields h e) i)
no-fault bytes fields fault.WantOfMemory h l e i = refl

-- what any answer to the bytes says of the fields that they were written of
pub gives-fields : (bytes : ByteString) (fields : List NamedDatum) (r : Result Event JsonFault) → IfOk r (λ event. IsEvent bytes event.fields) → IfErr r (IsFault bytes) → IsWritable (Fields (named_of fields)) → fields_depth fields ≤ 32 → bytes ≡ written (Fields (named_of fields)) → GivesFields fields r
gives-fields bytes fields (Ok event) i f h l e = fields-again bytes fields event.fields h e i
gives-fields bytes fields (Err fault) i f h l e = no-fault bytes fields fault h l e f
