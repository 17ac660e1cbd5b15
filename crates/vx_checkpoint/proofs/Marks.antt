-- What the document of a checkpoint is read as, and the faults of a text.
use Rattle.std.proofs.Common.{◌≡◌, ℕ, ◌^◌, ◌<◌, ◌∷◌, ◌++◌, [], Some, false, refl, sym, ap, ◌∙◌, subst, arith, if◌then◌else◌, unwrap_or}
use Rattle.std.specs.Str.{IsUtf8}
use Rattle.std.proofs.lemmas.Bool.{lt-ltb}
use Rattle.std.proofs.lemmas.Str.{IsUtf8-append}
use Rattle.json.proofs.Printed.Utf8.{IsUtf8-are_ascii}
use Rattle.serde_json.specs.Data.{Data}
use Rattle.serde_json.specs.Read.{read}
use Rattle.serde_json.specs.Written.{has_float, compact_text}
use Rattle.vx_value.specs.Texts.{ByteString}
use Rattle.vx_checkpoint.specs.Document.{Reading, Mark, Misshapen, reading, version_of, path_of, offset_of, document_of}
use Rattle.vx_checkpoint.specs.Readings.{Says, IsFault}
use Rattle.vx_checkpoint.proofs.Lines.{read_line}
use Rattle.vx_checkpoint.specs.Shapes.{IsShapeFault}
use Rattle.vx_checkpoint.specs.declared.checkpoint.CheckpointFault.{CheckpointFault}
use Rattle.vx_checkpoint.specs.declared.checkpoint.CheckpointFault.TheVariants.{NotJson, WrongShape, WrongVersion, WantOfMemory}

-- the document of a checkpoint says that checkpoint
pub says_mark : (path : ByteString) (offset : ℕ) → offset < 2 ^ 63 → reading (document_of path offset) ≡ Mark path offset
unfolding reading version_of path_of offset_of document_of
says_mark path offset lt = ap (λ b. if b then Mark path offset else Misshapen) (lt-ltb offset (2 ^ 63) lt)

-- what is written says the checkpoint
pub written_says : (bytes text path : ByteString) (offset : ℕ) → bytes ≡ text ++ 10 ∷ [] → text ≡ compact_text (document_of path offset)
    → IsUtf8 text → read text ≡ Some (document_of path offset) → offset < 2 ^ 63 → Says bytes (Mark path offset)
written_says bytes text path offset e is utf8 r lt =
    subst (λ t. Says t (Mark path offset)) (sym e) (
      IsUtf8-append text (10 ∷ []) utf8 (IsUtf8-are_ascii (10 ∷ []) refl),
      (
        document_of path offset,
        ap (λ t. read (t ++ 10 ∷ [])) is ∙ read_line path offset (omega (arith, lt)) ∙ ap read (sym is) ∙ r,
        says_mark path offset lt,
      ),
    )

-- bytes say one thing alone
pub says_one : (bytes : ByteString) (said other : Reading) → Says bytes said → Says bytes other → other ≡ said
says_one bytes said other h g =
    sym g.1.2 ∙ ap reading (ap (λ found. unwrap_or found h.1.0) (sym g.1.1 ∙ h.1.1)) ∙ h.1.2

-- the fault of some bytes is that of their document
pub fault_of_bytes : (bytes : ByteString) (document : Data) → IsUtf8 bytes → read bytes ≡ Some document → (fault : CheckpointFault)
    → IsShapeFault document fault → IsFault bytes fault
fault_of_bytes bytes document utf8 r NotJson h = absurd h
fault_of_bytes bytes document utf8 r WrongShape h = (utf8, (document, r, h))
fault_of_bytes bytes document utf8 r (WrongVersion found) h = (utf8, (document, r, h))
fault_of_bytes bytes document utf8 r WantOfMemory h = tt

-- it has no float, and is flat
pub no_float : (path : ByteString) (offset : ℕ) → has_float (document_of path offset) ≡ false
unfolding document_of
no_float path offset = refl
