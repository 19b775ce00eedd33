-- The kind byte of a line, and how many lines have it. Assumes nothing.
use Rattle.std.proofs.Common.{◌≡◌, ℕ, ◌+◌, cond, eqb, List, [], ◌∷◌, length, take, drop, Some, None, Ok, Option, sym, refl, ap, ◌∙◌, arith}
use Rattle.std.proofs.lemmas.List.Sums.{sum_by-cons}
use Rattle.std.proofs.iter.runs.Sources.{from_front}
use Rattle.std.specs.Iterator.Runs.{ItemsMapTo, Run, YieldsRun}
use Rattle.terms.specs.Refusals.{refused_at}
use Rattle.terms.specs.declared.fault.Fault.{Fault}
use Rattle.terms.specs.declared.refusal.Refusal.{Refusal}
use Rattle.terms.specs.declared.refusal.Refusal.TheVariants.{NotHexadecimal}
use Rattle.terms.proofs.Answered.{asked}
use Rattle.frames.proofs.Sound.{found, found_byte}
use Rattle.frames.specs.Frames.{hexadecimal, kind_refusal, line_refusal}
use Rattle.frames.specs.Hex.{number_of}
use Rattle.frames.specs.Kinds.{Kind, all_kinds, find_kind, class_kind, security_kind, pair_kind, booking_kind, deposit_kind, total_kind, fault_kind}
use Rattle.lines.specs.declared.frame_line.FrameKind.{FrameKind}
use Rattle.lines.specs.declared.frame_line.FrameLine.{FrameLine}
use Rattle.lines.specs.FrameLines.{Framed, Tells, kind_of, named_kind}
use Rattle.lines.specs.Lines.{GivesFirst, lines_left}
use Rattle.inspections.specs.Counts.{byte_told, line_byte, count_of}

byte_framed : (line : List ℕ) (at : ℕ) (frame : FrameLine) → Framed line at frame → (kind_of frame).byte ≡ line_byte line
byte_framed line at frame framed =
    sym (found_byte all_kinds (number_of (take 2 line)) (kind_of frame) framed.kind)
    ∙ sym (ap (λ o. byte_told o (number_of (take 2 line))) framed.passes)

by_refusal : (o : Option Refusal) (byte : ℕ) (f : Fault) → Some f ≡ refused_at 0 o → 0 ≡ byte_told o byte
by_refusal None byte f e = let z : ◌≡◌ {A = ℕ} 0 1 = cc in absurd (omega arith)
by_refusal (Some refusal) byte f e = refl

-- what a line is told as has its byte
pub told_frame : (line : List ℕ) (at : ℕ) (frame : FrameLine) (kind : FrameKind) → Tells line at (Ok frame) → named_kind kind ≡ kind_of frame → (named_kind kind).byte ≡ line_byte line
told_frame line at frame kind tells is = ap (λ (k : Kind). k.byte) is ∙ byte_framed line at frame tells

pub told_refused : (line : List ℕ) (f : Fault) → Some f ≡ refused_at 0 (line_refusal all_kinds line) → 0 ≡ line_byte line
told_refused line f tells = by_refusal (line_refusal all_kinds line) (number_of (take 2 line)) f tells

-- how many of the eight bytes this one is
abbrev ways : ℕ → ℕ
ways b =
    cond {A = ℕ} (eqb b class_kind.byte) 1 0 + cond {A = ℕ} (eqb b security_kind.byte) 1 0 + cond {A = ℕ} (eqb b pair_kind.byte) 1 0 + cond {A = ℕ} (eqb b booking_kind.byte) 1 0
    + cond {A = ℕ} (eqb b deposit_kind.byte) 1 0 + cond {A = ℕ} (eqb b total_kind.byte) 1 0 + cond {A = ℕ} (eqb b fault_kind.byte) 1 0 + cond {A = ℕ} (eqb b 0) 1 0

known : (o : Option Kind) (fields : List ℕ) → kind_refusal o fields ≡ None → (k : Kind) × (o ≡ Some k)
known None fields e = let z : ◌≡◌ {A = ℕ} 0 1 = cc in absurd (omega arith)
known (Some k) fields e = (k, refl)

-- a line that is not refused has the byte of a kind
passed_once : (line : List ℕ) → line_refusal all_kinds line ≡ None → ways (number_of (take 2 line)) ≡ 1
passed_once line e =
    let byte = number_of (take 2 line) in
    let kind = known (find_kind all_kinds byte) (drop 2 line) (asked (hexadecimal line) (kind_refusal (find_kind all_kinds byte) (drop 2 line)) NotHexadecimal e).1 in
    ap ways (found_byte all_kinds byte kind.0 kind.1)
    ∙ found (λ k. ways k.byte ≡ 1) all_kinds (refl, (refl, (refl, (refl, (refl, (refl, (refl, tt))))))) byte kind.0 kind.1

line_once : (line : List ℕ) (o : Option Refusal) → line_refusal all_kinds line ≡ o → ways (byte_told o (number_of (take 2 line))) ≡ 1
line_once line None e = passed_once line e
line_once line (Some refusal) e = refl

-- one line more
counted_more : (byte : ℕ) (line : List ℕ) (lines : List (List ℕ)) → count_of byte (line ∷ lines) ≡ cond (eqb (line_byte line) byte) 1 0 + count_of byte lines
counted_more byte line lines = sum_by-cons (λ l. cond (eqb (line_byte l) byte) 1 0) line lines

-- each line is counted once
pub counted_once : (lines : List (List ℕ)) →
    count_of class_kind.byte lines + count_of security_kind.byte lines + count_of pair_kind.byte lines + count_of booking_kind.byte lines + count_of deposit_kind.byte lines + count_of total_kind.byte lines + count_of fault_kind.byte lines + count_of 0 lines ≡ length lines
counted_once [] = refl
counted_once (line ∷ lines) =
    let more : (byte : ℕ) → count_of byte (line ∷ lines) ≡ cond (eqb (line_byte line) byte) 1 0 + count_of byte lines = λ byte. counted_more byte line lines in
    omega (arith, line_once line (line_refusal all_kinds line) refl, counted_once lines, more class_kind.byte, more security_kind.byte, more pair_kind.byte, more booking_kind.byte, more deposit_kind.byte, more total_kind.byte, more fault_kind.byte, more 0)

-- ---- a chain over the lines of a text

-- what a run of a reader gives are the lines that it had left
pub run_of_lines : (p : Run GivesFirst) → YieldsRun GivesFirst p.from p.items p.whole p.at × ItemsMapTo p (λ part. part.digits.now) (lines_left p.from)
run_of_lines p = (p.gave, from_front GivesFirst (λ part. part.digits.now) lines_left (λ s t h. ap length h.0.0) (λ s x t h. h.0) p p.seen)
