-- One text after another, from the laws of what they are added to.
use Rattle.std.proofs.Common.{◌≡◌, ℕ, List, [], ◌++◌, length, sym, subst, arith}
use Rattle.std.proofs.lemmas.List.{length-append}
use Rattle.text.specs.Laws.{SinkLaws, Takes}

-- of the whole text, added to x, the value y lacks the rest, and has room for it
pub record Lacks {X : Type 0} (has_room : X → ℕ → Type 0) (adds : X → List ℕ → X → Type 0) (x : X) (whole : List ℕ) (y : X) (rest : List ℕ) : Type 0 where
  pub room : has_room y (length rest)
  pub ends : (z : X) → adds y rest z → adds x whole z

pub lacks_all : {X : Type 0} {has_room : X → ℕ → Type 0} {adds : X → List ℕ → X → Type 0} (laws : SinkLaws has_room adds)
    {x : X} {whole : List ℕ} → has_room x (length whole) → Lacks has_room adds x whole x whole
lacks_all laws r = record { room = r; ends = λ z a. a }

-- there is room for the text that is added next
pub lacks_room : {X : Type 0} {has_room : X → ℕ → Type 0} {adds : X → List ℕ → X → Type 0} (laws : SinkLaws has_room adds)
    {x y : X} {whole : List ℕ} (text more : List ℕ) → Lacks has_room adds x whole y (text ++ more) → has_room y (length text)
lacks_room laws {y = y} text more l = laws.room y y [] (length text) (length (text ++ more)) (laws.none y) l.room (omega (arith, length-append text more))

pub lacks_next : {X : Type 0} {has_room : X → ℕ → Type 0} {adds : X → List ℕ → X → Type 0} (laws : SinkLaws has_room adds)
    {x y z : X} {whole : List ℕ} (text more : List ℕ) → Lacks has_room adds x whole y (text ++ more) → adds y text z → Lacks has_room adds x whole z more
lacks_next laws {y = y} {z = z} text more l a = record {
  room = laws.room y z text (length more) (length (text ++ more)) a l.room (omega (arith, length-append text more));
  ends = λ w b. l.ends w (laws.more y z w text more a b);
}

-- the same rest under another name
pub lacks_as : {X : Type 0} {has_room : X → ℕ → Type 0} {adds : X → List ℕ → X → Type 0}
    {x y : X} {whole rest more : List ℕ} → Lacks has_room adds x whole y rest → rest ≡ more → Lacks has_room adds x whole y more
lacks_as {X} {has_room} {adds} {x} {y} {whole} l e = subst (λ (r : List ℕ). Lacks has_room adds x whole y r) e l

-- nothing is left
pub lacks_none : {X : Type 0} {has_room : X → ℕ → Type 0} {adds : X → List ℕ → X → Type 0} (laws : SinkLaws has_room adds)
    {x y : X} {whole rest : List ℕ} → Lacks has_room adds x whole y rest → rest ≡ [] → adds x whole y
lacks_none laws {y = y} l e = (lacks_as l e).ends y (laws.none y)

-- nothing takes no room
pub takes_none : {X : Type 0} {has_room : X → ℕ → Type 0} {adds : X → List ℕ → X → Type 0} (laws : SinkLaws has_room adds) (x : X) → Takes has_room adds x [] x
takes_none laws x = λ r. laws.none x

-- two texts, one after the other, where there is room for both
pub takes_more : {X : Type 0} {has_room : X → ℕ → Type 0} {adds : X → List ℕ → X → Type 0} (laws : SinkLaws has_room adds)
    {x y z : X} {s t : List ℕ} → Takes has_room adds x s y → Takes has_room adds y t z → Takes has_room adds x (s ++ t) z
takes_more laws {x = x} {y = y} {z = z} {s = s} {t = t} a b = λ r.
    let all = lacks_all laws r in
    let first = a (lacks_room laws s t all) in
    laws.more x y z s t first (b (lacks_next laws s t all first).room)

-- a text that is the same under another name
pub takes_as : {X : Type 0} {has_room : X → ℕ → Type 0} {adds : X → List ℕ → X → Type 0} (laws : SinkLaws has_room adds)
    {x y : X} {s t : List ℕ} → t ≡ s → Takes has_room adds x s y → Takes has_room adds x t y
takes_as {has_room} {adds} laws {x = x} {y = y} e a = subst (λ (u : List ℕ). Takes has_room adds x u y) (sym e) a
