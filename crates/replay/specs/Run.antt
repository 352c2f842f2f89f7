-- What is written for an input, by lines, events and the steps of the machine.
use Rattle.std.specs.Prelude.{◌≡◌, ℕ, Bool, ◌+◌, List, [], ◌∷◌, ◌++◌, ◌⊎◌, true, Option, Some, None, flat_map, take, codes}
use Rattle.std.specs.Fmt.{decimal}
use Rattle.std.specs.Io.KnownBytes.{Appends}
use Rattle.hub_events.specs.declared.out.Out.{Out}
use Rattle.hub_rows.specs.Rows.{Rows}
use Rattle.hub.specs.Hub.{is_of_hosted}
use Rattle.hub.specs.World.{Setting, World, world_outputs, world_step}
use Rattle.lines.specs.declared.input_line.Line.{Line}
use Rattle.lines.specs.declared.input_line.Line.TheVariants.{Nothing, Event, Bad}
use Rattle.lines.specs.InputLines.{spelled}
use Rattle.lines.specs.OutputLines.{line_of}
use Rattle.replay.specs.Held.{lines_of}

-- the text is a prefix of the whole
pub record Begins (text whole : List ℕ) : Type 0 where
  pub more : List ℕ
  pub is : text ++ more ≡ whole

-- a line with its line feed
abbrev pub ended : List ℕ → List ℕ
ended text = text ++ (10 ∷ [])

-- the lines of outputs
abbrev pub told_lines : List Out → List ℕ
told_lines outs = flat_map (λ o. ended (line_of o)) outs

-- the answer to a line that is bad
abbrev pub bad_line : ℕ → List ℕ
bad_line k = ended (codes "bad line " ++ decimal k)

-- what line k is answered: nothing, the lines of its event's outputs, or `bad line k`
abbrev pub answer : Setting → World → ℕ → Line → List ℕ
answer st w k Nothing = []
answer st w k (Event e) = told_lines (world_outputs st w e)
answer st w k Bad = bad_line k

-- the world after a line
abbrev pub after : Setting → World → Line → World
after st w Nothing = w
after st w (Event e) = world_step st w e
after st w Bad = w

-- an event that a line says is of a hosted operator
abbrev pub IsOfHosted : (List ℕ → Bool) → Line → Type 0
IsOfHosted hosted Nothing = Unit {0}
IsOfHosted hosted (Event e) = is_of_hosted hosted e ≡ true
IsOfHosted hosted Bad = Unit {0}

-- the line was taken, or not
abbrev pub IsStep : Setting → World → Line → World → Type 0
IsStep st w said v = (v ≡ w) ⊎ (v ≡ after st w said)

-- what lines are answered, the first of them line k
unfoldable pub answers_to : Setting → World → ℕ → List (List ℕ) → List ℕ
answers_to st w k [] = []
answers_to st w k (l ∷ ls) = answer st w k (spelled st.is_hosted l) ++ answers_to st (after st w (spelled st.is_hosted l)) (k + 1) ls

-- the world after lines
unfoldable pub world_after : Setting → World → List (List ℕ) → World
world_after st w [] = w
world_after st w (l ∷ ls) = world_after st (after st w (spelled st.is_hosted l)) ls

-- what is written for an input: what its lines are answered, from a world on
abbrev pub output_of : Setting → World → List ℕ → List ℕ
output_of st w input = answers_to st w 1 (lines_of input)

-- the world after an input
abbrev pub world_of : Setting → World → List ℕ → World
world_of st w input = world_after st w (lines_of input)

-- the world after a number of the lines, the last of them whole
pub record IsReached (st : Setting) (w : World) (lines : List (List ℕ)) (v : World) : Type 0 where
  pub taken : ℕ
  pub is : v ≡ world_after st w (take taken lines)

-- the rows after a number of the lines, the last of them whole
pub record AreReached (st : Setting) (w : World) (lines : List (List ℕ)) (r : Rows) : Type 0 where
  pub taken : ℕ
  pub is : r ≡ (world_after st w (take taken lines)).rows

-- the bytes have grown by a prefix of `whole`, and `ahead` is the rest of it
pub record Grown (xs ys ahead whole : List ℕ) : Type 0 where
  pub done : List ℕ
  pub now : ys ≡ xs ++ done
  pub all : done ++ ahead ≡ whole

-- the same, where the bytes are known
abbrev pub Stands : Option (List ℕ) → Option (List ℕ) → List ℕ → List ℕ → Type 0
Stands None now ahead whole = Unit {0}
Stands (Some xs) None ahead whole = ⊥
Stands (Some xs) (Some ys) ahead whole = Grown xs ys ahead whole

-- the same, where the rest begins with a text
pub record Falls (start now : Option (List ℕ)) (text whole : List ℕ) : Type 0 where
  pub ahead : List ℕ
  pub stands : Stands start now (text ++ ahead) whole

-- a prefix of a text was appended
pub record AppendsFront (old now : Option (List ℕ)) (text : List ℕ) : Type 0 where
  pub front : List ℕ
  pub begins : Begins front text
  pub appends : Appends old now front
