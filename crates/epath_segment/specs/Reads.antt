-- The strict reader of one segment, executable: fields in wire order, the first broken rule refuses. CIP Volume 1, Appendix C-1.4, and document 01,
-- "Segments": it takes exactly what the writer makes. Assumes nothing: these are definitions.
use Rattle.std.specs.Prelude.{ℕ, zero, suc, ◌+◌, ◌%◌, List, [], ◌∷◌, true, false, length, get_or, drop, ltb, eqb}
use Rattle.std.specs.Prelude.{Result, Ok, Err}
use Rattle.wire.specs.Numbers.{value_of}
use Rattle.wire.specs.Refusals.{number}
use Rattle.wire.specs.declared.Refusal.{Refusal}
use Rattle.wire.specs.Answers.{Answer, done, refused, Rule, under, over, other, judged}
use Rattle.epath_sizes.specs.Limits.{max_link, port_end, near_port, far_port_code, long_link, class_code, instance_code, element_code, attribute_code, symbol_code}
use Rattle.epath_sizes.specs.Segments.{Seg, far_value}
use Rattle.epath_sizes.specs.Lists.{meaning, shifted}
use Rattle.epath_sizes.specs.declared.Segment.{Segment}
use Rattle.epath_sizes.specs.declared.Segment.TheVariants.{Symbol, Class, Instance, Attribute, Element, Port}
use Rattle.epath_segment.specs.declared.SegmentRead.{SegmentRead}
use Rattle.epath_segment.specs.declared.decode.Kind.{Kind}
use Rattle.epath_segment.specs.declared.decode.Kind.TheVariants.{Class as kClass, Instance as kInstance, Attribute as kAttribute, Element as kElement}
use Rattle.epath_segment.specs.declared.decode.Form.{Form}
use Rattle.epath_segment.specs.declared.decode.Form.TheVariants.{Port as fPort, Symbol as fSymbol, Narrow, Wide, Widest, Unknown}

-- a segment, and how many bytes it has
pub data Front : Type 0 where
  front : Segment → ℕ → Front

abbrev pub paper_front : Result SegmentRead Refusal → Answer Front
paper_front (Ok r) = done (front r.segment r.len)
paper_front (Err e) = refused (number e)

-- ---- what the first byte says

pub data FormRow : Type 0 where
  form_row : ℕ → Form → FormRow

abbrev pub table : List FormRow
table =
    form_row symbol_code fSymbol
    ∷ form_row class_code (Narrow kClass)
    ∷ form_row (class_code + 1) (Wide kClass)
    ∷ form_row instance_code (Narrow kInstance)
    ∷ form_row (instance_code + 1) (Wide kInstance)
    ∷ form_row attribute_code (Narrow kAttribute)
    ∷ form_row (attribute_code + 1) (Wide kAttribute)
    ∷ form_row element_code (Narrow kElement)
    ∷ form_row (element_code + 1) (Wide kElement)
    ∷ form_row (element_code + 2) Widest
    ∷ []

unfoldable pub form_in : ℕ → List FormRow → Form
form_in b [] = Unknown
form_in b (form_row c f ∷ rs) = elim (eqb b c) [ true ↦ f | false ↦ form_in b rs ]

unfoldable pub form_of : ℕ → Form
form_of b = elim (ltb b port_end) [ true ↦ fPort | false ↦ form_in b table ]

-- ---- each form, over the bytes t that begin with it: which rules in which order, and what it then is, with its size

abbrev pub made : Kind → ℕ → Segment
made kClass v = Class v
made kInstance v = Instance v
made kAttribute v = Attribute v
made kElement v = Element v

-- C-1.4.2: a value in one byte
unfoldable pub read_narrow : (ℕ → Segment) → List ℕ → Answer Front
read_narrow make t = judged (under (length t) 2 1 ∷ []) (done (front (make (get_or t 1 0)) 2))

-- C-1.4.2: a value in w bytes behind a zero, of which the value is `least` at least, or a narrower form would do
unfoldable pub read_wide : (ℕ → Segment) → ℕ → ℕ → List ℕ → Answer Front
read_wide make w least t =
    judged
    (under (length t) 2 1
    ∷ other (get_or t 1 0) 0 5
    ∷ under (length t) (2 + w) 1
    ∷ under (value_of w (drop 2 t)) least 5
    ∷ [])
    (done (front (make (value_of w (drop 2 t))) (2 + w)))

-- the zero after an odd end
abbrev pub pad_rules : ℕ → ℕ → List ℕ → List Rule
pad_rules zero end t = []
pad_rules (suc r) end t = under (length t) (end + 1) 1 ∷ other (get_or t end 0) 0 5 ∷ []

-- the bytes of x up to `end`, then the pad
unfoldable pub read_part : Segment → ℕ → List ℕ → Answer Front
read_part x end t = judged (under (length t) end 1 ∷ pad_rules (end % 2) end t) (done (front x (end + end % 2)))

-- C-1.4.5.2: a length byte, then as many bytes
unfoldable pub read_symbol : List ℕ → Answer Front
read_symbol t = judged (under (length t) 2 1 ∷ []) (read_part (Symbol (record { start = 2; len = get_or t 1 0 })) (2 + get_or t 1 0) t)

-- C-1.4.1: a link of len bytes from `at` on
unfoldable pub read_link : ℕ → ℕ → ℕ → List ℕ → Answer Front
read_link p at len t = read_part (Port (record { port = p; start = at; len = len })) (at + len) t

-- the port is the low bits; where they are 15 it follows from `at` on, and is none that the low bits hold
unfoldable pub read_port_number : ℕ → ℕ → ℕ → List ℕ → Answer Front
read_port_number low at len t =
    elim (ltb low far_port_code) [
      | true ↦ read_link low at len t
      | false ↦
          judged
          (under (length t) (at + 2) 1 ∷ under (far_value (get_or t at 0) (get_or t (at + 1) 0)) (near_port + 1) 5 ∷ [])
          (read_link (far_value (get_or t at 0) (get_or t (at + 1) 0)) (at + 2) len t)
    ]

-- bit 4 of the first byte b: a length byte follows
unfoldable pub read_port : ℕ → List ℕ → Answer Front
read_port b t =
    elim (ltb b long_link) [
      | true ↦ read_port_number (b % long_link) 1 1 t
      | false ↦
          judged
          (under (length t) 2 1 ∷ under (get_or t 1 0) 2 5 ∷ over (get_or t 1 0) max_link 3 ∷ [])
          (read_port_number (b % long_link) 2 (get_or t 1 0) t)
    ]

-- a segment whose first byte is b
abbrev pub read_as : Form → ℕ → List ℕ → Answer Front
read_as fPort b t = read_port b t
read_as fSymbol b t = read_symbol t
read_as (Narrow k) b t = read_narrow (made k) t
read_as (Wide k) b t = read_wide (made k) 2 256 t
read_as Widest b t = read_wide Element 4 65536 t
read_as Unknown b t = refused 4

-- what stands at the front of t; starts count from there
unfoldable pub read_seg : List ℕ → Answer Front
read_seg t = judged (under (length t) 1 1 ∷ []) (read_as (form_of (get_or t 0 0)) (get_or t 0 0) t)

-- the same with the segment's bytes inside
pub data Parsed : Type 0 where
  parsed : Seg → ℕ → Parsed

abbrev pub seen : List ℕ → Answer Front → Answer Parsed
seen t (done (front x n)) = done (parsed (meaning t x) n)
seen t (refused k) = refused k

abbrev pub parse : List ℕ → Answer Parsed
parse t = seen t (read_seg t)

-- the same at a place: starts and the end are places in the whole
abbrev pub moved : ℕ → Answer Front → Answer Front
moved at (done (front x n)) = done (front (shifted at x) (at + n))
moved at (refused k) = refused k
