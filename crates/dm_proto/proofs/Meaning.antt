-- What is found of a line's words is what they mean: each command that they say is found, and what is
-- found is said.
use Rattle.std.proofs.Common.{◌≡◌, ℕ, ◌≤◌, inl, inr, Bool, true, false, ◌&&◌, cond, Option, Some, None, List, [], ◌∷◌, length, refl, sym, ◌∙◌, ap, subst}
use Rattle.std.proofs.lemmas.Bool.{cases_Bool, and_parts, cond-true, cond-false, leb-true, leb-false, ne_eqb, eqb-false}
use Rattle.std.specs.Prelude.{codes, nat_le, ◌==◌}
use Rattle.std.specs.Str.{bytes_eq}
use Rattle.dm_base.specs.Limits.{file_limit}
use Rattle.dm_base.specs.declared.identifier.GroupId.{GroupId}
use Rattle.dm_base.specs.declared.command.Command.{Command}
use Rattle.dm_base.specs.declared.command.Command.TheVariants as command
use Rattle.dm_proto.specs.Grammar.{Slot, SaysSlot, Spells, spelling, Brings, IsProper, keyword, path, name, prefix, number, group, bfid}
use Rattle.dm_proto.specs.Found.{found_in, one_word, two_words, three_words, four_words, given, given_or, row_in}
use Rattle.dm_proto.specs.Found.{bare_commands, verbs_on_path, verbs_on_name, verbs_on_group, verbs_on_save}
use Rattle.dm_proto.specs.Found.{command_on_path, command_on_name, command_on_group, command_on_save}
use Rattle.dm_proto.specs.Found.{path_in, name_in, number_in, group_in, bfid_in, prefix_in}
use Rattle.dm_proto.specs.Found.{path_line, name_line, group_line, age_line, write_line, move_line, save_line, patch_line, restore_line, move_two_line, salvage_line}
use Rattle.dm_proto.specs.Found.{opened_command}
use Rattle.dm_proto.specs.declared.line.Line.{Line}
use Rattle.dm_proto.specs.declared.line.Line.TheVariants as line
use Rattle.dm_proto.specs.declared.verb.OnPath.{OnPath}
use Rattle.dm_proto.specs.declared.verb.OnPath.TheVariants as on_path
use Rattle.dm_proto.specs.declared.verb.OnName.{OnName}
use Rattle.dm_proto.specs.declared.verb.OnName.TheVariants as on_name
use Rattle.dm_proto.specs.declared.verb.OnGroup.{OnGroup}
use Rattle.dm_proto.specs.declared.verb.OnGroup.TheVariants as on_group
use Rattle.dm_proto.specs.declared.verb.OnSave.{OnSave}
use Rattle.dm_proto.specs.declared.verb.OnSave.TheVariants as on_save
use Rattle.dm_proto.proofs.Slots.{path_says, path_sound, name_says, name_sound, prefix_says, prefix_sound, number_says, number_sound}
use Rattle.dm_proto.proofs.Slots.{group_says, group_sound, bfid_says, bfid_sound, row_sound, bytes_same}

-- the words of a line, by how many they are
pub record One (ws : List (List ℕ)) (s : Slot) : Type 0 where
  pub a : List ℕ
  pub is : ws ≡ a ∷ []
  pub first : SaysSlot s a

pub record Two (ws : List (List ℕ)) (s t : Slot) : Type 0 where
  pub a : List ℕ
  pub b : List ℕ
  pub is : ws ≡ a ∷ b ∷ []
  pub first : SaysSlot s a
  pub second : SaysSlot t b

pub record Three (ws : List (List ℕ)) (s t u : Slot) : Type 0 where
  pub a : List ℕ
  pub b : List ℕ
  pub c : List ℕ
  pub is : ws ≡ a ∷ b ∷ c ∷ []
  pub first : SaysSlot s a
  pub second : SaysSlot t b
  pub third : SaysSlot u c

pub record Four (ws : List (List ℕ)) (s t u v : Slot) : Type 0 where
  pub a : List ℕ
  pub b : List ℕ
  pub c : List ℕ
  pub d : List ℕ
  pub is : ws ≡ a ∷ b ∷ c ∷ d ∷ []
  pub first : SaysSlot s a
  pub second : SaysSlot t b
  pub third : SaysSlot u c
  pub fourth : SaysSlot v d

one_of : (ws : List (List ℕ)) (s : Slot) → Spells ws (s ∷ []) → One ws s
one_of [] s h = absurd h
one_of (a ∷ []) s h = record { a = a; is = refl; first = h.0 }
one_of (a ∷ b ∷ ws) s h = absurd h.1

two_of : (ws : List (List ℕ)) (s t : Slot) → Spells ws (s ∷ t ∷ []) → Two ws s t
two_of [] s t h = absurd h
two_of (a ∷ []) s t h = absurd h.1
two_of (a ∷ b ∷ []) s t h = record { a = a; b = b; is = refl; first = h.0; second = h.1.0 }
two_of (a ∷ b ∷ c ∷ ws) s t h = absurd h.1.1

three_of : (ws : List (List ℕ)) (s t u : Slot) → Spells ws (s ∷ t ∷ u ∷ []) → Three ws s t u
three_of [] s t u h = absurd h
three_of (a ∷ []) s t u h = absurd h.1
three_of (a ∷ b ∷ []) s t u h = absurd h.1.1
three_of (a ∷ b ∷ c ∷ []) s t u h = record { a = a; b = b; c = c; is = refl; first = h.0; second = h.1.0; third = h.1.1.0 }
three_of (a ∷ b ∷ c ∷ d ∷ ws) s t u h = absurd h.1.1.1

four_of : (ws : List (List ℕ)) (s t u v : Slot) → Spells ws (s ∷ t ∷ u ∷ v ∷ []) → Four ws s t u v
four_of [] s t u v h = absurd h
four_of (a ∷ []) s t u v h = absurd h.1
four_of (a ∷ b ∷ []) s t u v h = absurd h.1.1
four_of (a ∷ b ∷ c ∷ []) s t u v h = absurd h.1.1.1
four_of (a ∷ b ∷ c ∷ d ∷ []) s t u v h = record { a = a; b = b; c = c; d = d; is = refl; first = h.0; second = h.1.0; third = h.1.1.0; fourth = h.1.1.1.0 }
four_of (a ∷ b ∷ c ∷ d ∷ e ∷ ws) s t u v h = absurd h.1.1.1.1

-- the families of commands
bare_found : (ws : List (List ℕ)) (text : List ℕ) (c : Command) → row_in bare_commands text ≡ Some c → Spells ws (keyword text ∷ []) → found_in ws ≡ line.Command c
bare_found ws text c row h =
    let t = one_of ws (keyword text) h in
    ap found_in t.is ∙ ap one_word t.first ∙ ap (λ (o : Option Command). given o (λ x. line.Command x)) row

path_found : (ws : List (List ℕ)) (text : List ℕ) (v : OnPath) (p : List ℕ) → ((b : List ℕ) → two_words text b ≡ path_line v b) → Spells ws (keyword text ∷ path p ∷ []) → found_in ws ≡ line.Command (command_on_path v p)
path_found ws text v p begins h =
    let t = two_of ws (keyword text) (path p) h in
    ap found_in t.is ∙ ap (λ (x : List ℕ). two_words x t.b) t.first ∙ begins t.b
    ∙ ap (λ (o : Option (List ℕ)). given o (λ x. line.Command (command_on_path v x))) (path_says t.b p t.second)

name_found : (ws : List (List ℕ)) (text : List ℕ) (v : OnName) (n : List ℕ) → ((b : List ℕ) → two_words text b ≡ name_line v b) → Spells ws (keyword text ∷ name n ∷ []) → found_in ws ≡ line.Command (command_on_name v n)
name_found ws text v n begins h =
    let t = two_of ws (keyword text) (name n) h in
    ap found_in t.is ∙ ap (λ (x : List ℕ). two_words x t.b) t.first ∙ begins t.b
    ∙ ap (λ (o : Option (List ℕ)). given o (λ x. line.Command (command_on_name v x))) (name_says t.b n t.second)

group_found : (ws : List (List ℕ)) (text : List ℕ) (v : OnGroup) (g : GroupId) → ((b : List ℕ) → two_words text b ≡ group_line v b) → Spells ws (keyword text ∷ group g.0 ∷ []) → found_in ws ≡ line.Command (command_on_group v g)
group_found ws text v g begins h =
    let t = two_of ws (keyword text) (group g.0) h in
    ap found_in t.is ∙ ap (λ (x : List ℕ). two_words x t.b) t.first ∙ begins t.b
    ∙ ap (λ (o : Option GroupId). given o (λ x. line.Command (command_on_group v x))) (group_says t.b g t.second)

save_found : (ws : List (List ℕ)) (text : List ℕ) (v : OnSave) (g : GroupId) (n : List ℕ) → ((b c : List ℕ) → three_words text b c ≡ save_line v b c) → Spells ws (keyword text ∷ group g.0 ∷ name n ∷ [])
    → found_in ws ≡ line.Command (command_on_save v g n)
save_found ws text v g n begins h =
    let t = three_of ws (keyword text) (group g.0) (name n) h in
    ap found_in t.is ∙ ap (λ (x : List ℕ). three_words x t.b t.c) t.first ∙ begins t.b t.c
    ∙ ap (λ (o : Option GroupId). given o (λ x. given (name_in t.c) (λ y. line.Command (command_on_save v x y)))) (group_says t.b g t.second)
    ∙ ap (λ (o : Option (List ℕ)). given o (λ y. line.Command (command_on_save v g y))) (name_says t.c n t.third)

write_found : (ws : List (List ℕ)) (p : List ℕ) (size : ℕ) → Spells ws (keyword (codes "write") ∷ path p ∷ number size ∷ []) → found_in ws ≡ line.Payload (record { path = p; offset = None; size = size })
write_found ws p size h =
    let t = three_of ws (keyword (codes "write")) (path p) (number size) h in
    ap found_in t.is ∙ ap (λ (x : List ℕ). three_words x t.b t.c) t.first
    ∙ ap (λ (o : Option ℕ). given o (λ n. given (path_in t.b) (λ x. line.Payload (record { path = x; offset = None; size = n })))) (number_says t.c size t.third)
    ∙ ap (λ (o : Option (List ℕ)). given o (λ x. line.Payload (record { path = x; offset = None; size = size }))) (path_says t.b p t.second)

patch_found : (ws : List (List ℕ)) (p : List ℕ) (offset size : ℕ) → Spells ws (keyword (codes "patch") ∷ path p ∷ number offset ∷ number size ∷ []) → found_in ws ≡ line.Payload (record { path = p; offset = Some offset; size = size })
patch_found ws p offset size h =
    let t = four_of ws (keyword (codes "patch")) (path p) (number offset) (number size) h in
    ap found_in t.is ∙ ap (λ (x : List ℕ). four_words x t.b t.c t.d) t.first
    ∙ ap (λ (o : Option ℕ). given o (λ k. given (number_in t.d) (λ n. given (path_in t.b) (λ x. line.Payload (record { path = x; offset = Some k; size = n }))))) (number_says t.c offset t.third)
    ∙ ap (λ (o : Option ℕ). given o (λ n. given (path_in t.b) (λ x. line.Payload (record { path = x; offset = Some offset; size = n })))) (number_says t.d size t.fourth)
    ∙ ap (λ (o : Option (List ℕ)). given o (λ x. line.Payload (record { path = x; offset = Some offset; size = size }))) (path_says t.b p t.second)

-- what is found of a command's line
abbrev pub line_for : Command → Line
line_for (command.Write p bytes) = line.Payload (record { path = p; offset = None; size = length bytes })
line_for (command.LongWrite p len) = line.Payload (record { path = p; offset = None; size = len })
line_for (command.Patch p offset bytes) = line.Payload (record { path = p; offset = Some offset; size = length bytes })
line_for (command.LongPatch p offset len) = line.Payload (record { path = p; offset = Some offset; size = len })
line_for c = line.Command c

pub found_complete : (ws : List (List ℕ)) (c : Command) → Spells ws (spelling c) → IsProper c → found_in ws ≡ line_for c
found_complete ws (command.Write p bytes) h q = write_found ws p (length bytes) h
found_complete ws (command.LongWrite p len) h q = write_found ws p len h
found_complete ws (command.Patch p offset bytes) h q = patch_found ws p offset (length bytes) h
found_complete ws (command.LongPatch p offset len) h q = patch_found ws p offset len h
found_complete ws (command.Read p) h q = path_found ws (codes "read") on_path.Read p (λ b. refl) h
found_complete ws (command.Put p) h q = path_found ws (codes "put") on_path.Put p (λ b. refl) h
found_complete ws (command.PutRelease p) h q =
    let t = three_of ws (keyword (codes "put")) (keyword (codes "-r")) (path p) h in
    ap found_in t.is ∙ ap (λ (x : List ℕ). three_words x t.b t.c) t.first ∙ ap (λ (x : List ℕ). three_words (codes "put") x t.c) t.second
    ∙ ap (λ (o : Option (List ℕ)). given o (λ x. line.Command (command.PutRelease x))) (path_says t.c p t.third)
found_complete ws (command.Get p) h q = path_found ws (codes "get") on_path.Get p (λ b. refl) h
found_complete ws (command.Release p) h q = path_found ws (codes "release") on_path.Release p (λ b. refl) h
found_complete ws (command.Remove p) h q = path_found ws (codes "rm") on_path.Remove p (λ b. refl) h
found_complete ws command.List h q = bare_found ws (codes "ls") command.List refl h
found_complete ws (command.Attr p) h q = path_found ws (codes "attr") on_path.Attr p (λ b. refl) h
found_complete ws (command.Dump n) h q = name_found ws (codes "dump") on_name.Dump n (λ b. refl) h
found_complete ws (command.Undump n) h q = name_found ws (codes "undump") on_name.Undump n (λ b. refl) h
found_complete ws (command.Restore n p target) h q =
    let t = four_of ws (keyword (codes "restore")) (name n) (path p) (path target) h in
    ap found_in t.is ∙ ap (λ (x : List ℕ). four_words x t.b t.c t.d) t.first
    ∙ ap (λ (o : Option (List ℕ)). given o (λ x. given (path_in t.c) (λ y. given (path_in t.d) (λ z. line.Command (command.Restore x y z))))) (name_says t.b n t.second)
    ∙ ap (λ (o : Option (List ℕ)). given o (λ y. given (path_in t.d) (λ z. line.Command (command.Restore n y z)))) (path_says t.c p t.third)
    ∙ ap (λ (o : Option (List ℕ)). given o (λ z. line.Command (command.Restore n p z))) (path_says t.d target t.fourth)
found_complete ws command.HardDelete h q = bare_found ws (codes "hdelete") command.HardDelete refl h
found_complete ws (command.Age age) h q =
    let t = two_of ws (keyword (codes "age")) (number age) h in
    ap found_in t.is ∙ ap (λ (x : List ℕ). two_words x t.b) t.first ∙ ap (λ (o : Option ℕ). given o (λ x. line.Command (command.Age x))) (number_says t.b age t.second)
found_complete ws (command.Merge g) h q = group_found ws (codes "merge") on_group.Merge g (λ b. refl) h
found_complete ws (command.Reuse g) h q = group_found ws (codes "reuse") on_group.Reuse g (λ b. refl) h
found_complete ws (command.Volumes g) h q = group_found ws (codes "vols") on_group.Volumes g (λ b. refl) h
found_complete ws command.Space h q = bare_found ws (codes "space") command.Space refl h
found_complete ws (command.Move p g None) h q =
    let t = three_of ws (keyword (codes "move")) (prefix p) (group g.0) h in
    ap found_in t.is ∙ ap (λ (x : List ℕ). three_words x t.b t.c) t.first
    ∙ ap (λ (o : Option GroupId). given o (λ x. given (prefix_in t.b) (λ y. line.Command (command.Move y x None)))) (group_says t.c g t.third)
    ∙ ap (λ (o : Option _). given o (λ y. line.Command (command.Move y g None))) (prefix_says t.b p t.second)
found_complete ws (command.Move p g (Some second)) h q =
    let t = four_of ws (keyword (codes "move")) (prefix p) (group g.0) (group second.0) h in
    let end = λ (x y : GroupId). cond (x.0 == y.0) line.Syntax (given (prefix_in t.b) (λ z. line.Command (command.Move z x (Some y)))) in
    ap found_in t.is ∙ ap (λ (x : List ℕ). four_words x t.b t.c t.d) t.first
    ∙ ap (λ (o : Option GroupId). given o (λ x. given (group_in t.d) (λ y. end x y))) (group_says t.c g t.third)
    ∙ ap (λ (o : Option GroupId). given o (λ y. end g y)) (group_says t.d second t.fourth)
    ∙ cond-false (g.0 == second.0) _ _ (ne_eqb g.0 second.0 q)
    ∙ ap (λ (o : Option _). given o (λ z. line.Command (command.Move z g (Some second)))) (prefix_says t.b p t.second)
found_complete ws (command.Snap g n) h q = save_found ws (codes "snap") on_save.Snap g n (λ b c. refl) h
found_complete ws (command.Unsnap g n) h q = save_found ws (codes "unsnap") on_save.Unsnap g n (λ b c. refl) h
found_complete ws (command.Salvage g n b) h q =
    let t = four_of ws (keyword (codes "salvage")) (group g.0) (name n) (bfid b.0) h in
    ap found_in t.is ∙ ap (λ (x : List ℕ). four_words x t.b t.c t.d) t.first
    ∙ ap (λ (o : Option GroupId). given o (λ x. given (bfid_in t.d) (λ y. given (name_in t.c) (λ z. line.Command (command.Salvage x z y))))) (group_says t.b g t.second)
    ∙ ap (λ (o : Option _). given o (λ y. given (name_in t.c) (λ z. line.Command (command.Salvage g z y)))) (bfid_says t.d b t.fourth)
    ∙ ap (λ (o : Option (List ℕ)). given o (λ z. line.Command (command.Salvage g z b))) (name_says t.c n t.third)
found_complete ws command.Audit h q = bare_found ws (codes "audit") command.Audit refl h
found_complete ws command.AuditDeep h q =
    let t = two_of ws (keyword (codes "audit")) (keyword (codes "deep")) h in
    ap found_in t.is ∙ ap (λ (x : List ℕ). two_words x t.b) t.first ∙ ap (two_words (codes "audit")) t.second
found_complete ws command.Quit h q = bare_found ws (codes "quit") command.Quit refl h
found_complete ws command.Shutdown h q = bare_found ws (codes "shutdown") command.Shutdown refl h

-- the words say the command, whose payload is this
pub record Meant (ws : List (List ℕ)) (payload : List ℕ) (c : Command) : Type 0 where
  pub spelled : Spells ws (spelling c)
  pub proper : IsProper c
  pub brought : Brings c payload

-- what is found is meant
abbrev pub IsFoundIn : List (List ℕ) → Line → Type 0
IsFoundIn ws line.Blank = ws ≡ []
IsFoundIn ws line.Syntax = Unit {0}
IsFoundIn ws (line.Command c) = Meant ws [] c
IsFoundIn ws (line.Payload o) = (payload : List ℕ) → length payload ≡ o.size → Meant ws payload (opened_command o payload)

given_sound : {X : Type 0} (ws : List (List ℕ)) (o : Option X) (f : X → Line) → ((x : X) → o ≡ Some x → IsFoundIn ws (f x)) → IsFoundIn ws (given o f)
given_sound ws None f h = tt
given_sound ws (Some x) f h = h x refl

given_or_sound : {X : Type 0} (ws : List (List ℕ)) (o : Option X) (f : X → Line) (other : Line) → ((x : X) → o ≡ Some x → IsFoundIn ws (f x)) → IsFoundIn ws other → IsFoundIn ws (given_or o f other)
given_or_sound ws None f other h g = g
given_or_sound ws (Some x) f other h g = h x refl

if_sound : (ws : List (List ℕ)) (t : Bool) (a b : Line) → (t ≡ true → IsFoundIn ws a) → IsFoundIn ws b → IsFoundIn ws (cond t a b)
if_sound ws true a b h g = h refl
if_sound ws false a b h g = g

one_sound : (a : List ℕ) → IsFoundIn (a ∷ []) (one_word a)
one_sound a =
    given_sound (a ∷ []) (row_in bare_commands a) (λ c. line.Command c) (λ c e.
    row_sound (λ (w : List ℕ) (c : Command). Meant (w ∷ []) [] c) bare_commands a c (
      record { spelled = (refl, tt); proper = tt; brought = refl },
      (
        record { spelled = (refl, tt); proper = tt; brought = refl },
        (
          record { spelled = (refl, tt); proper = tt; brought = refl },
          (
            record { spelled = (refl, tt); proper = tt; brought = refl },
            (
              record { spelled = (refl, tt); proper = tt; brought = refl },
              (
                record { spelled = (refl, tt); proper = tt; brought = refl },
                tt,
              ),
            ),
          ),
        ),
      ),
    ) e)

-- a keyword begins a command on what the second word says
abbrev OnPathMeant : List ℕ → OnPath → Type 0
OnPathMeant w v = (b p : List ℕ) → SaysSlot (path p) b → Meant (w ∷ b ∷ []) [] (command_on_path v p)

abbrev OnNameMeant : List ℕ → OnName → Type 0
OnNameMeant w v = (b n : List ℕ) → SaysSlot (name n) b → Meant (w ∷ b ∷ []) [] (command_on_name v n)

abbrev OnGroupMeant : List ℕ → OnGroup → Type 0
OnGroupMeant w v = (b : List ℕ) (g : GroupId) → SaysSlot (group g.0) b → Meant (w ∷ b ∷ []) [] (command_on_group v g)

abbrev OnSaveMeant : List ℕ → OnSave → Type 0
OnSaveMeant w v = (b c : List ℕ) (g : GroupId) (n : List ℕ) → SaysSlot (group g.0) b → SaysSlot (name n) c → Meant (w ∷ b ∷ c ∷ []) [] (command_on_save v g n)

path_sound_row : (a : List ℕ) (v : OnPath) → row_in verbs_on_path a ≡ Some v → OnPathMeant a v
path_sound_row a v e =
    row_sound OnPathMeant verbs_on_path a v (
      λ b p s. record { spelled = (refl, (s, tt)); proper = tt; brought = refl },
      (
        λ b p s. record { spelled = (refl, (s, tt)); proper = tt; brought = refl },
        (
          λ b p s. record { spelled = (refl, (s, tt)); proper = tt; brought = refl },
          (
            λ b p s. record { spelled = (refl, (s, tt)); proper = tt; brought = refl },
            (
              λ b p s. record { spelled = (refl, (s, tt)); proper = tt; brought = refl },
              (
                λ b p s. record { spelled = (refl, (s, tt)); proper = tt; brought = refl },
                tt,
              ),
            ),
          ),
        ),
      ),
    ) e

name_sound_row : (a : List ℕ) (v : OnName) → row_in verbs_on_name a ≡ Some v → OnNameMeant a v
name_sound_row a v e =
    row_sound OnNameMeant verbs_on_name a v (
      λ b n s. record { spelled = (refl, (s, tt)); proper = tt; brought = refl },
      (
        λ b n s. record { spelled = (refl, (s, tt)); proper = tt; brought = refl },
        tt,
      ),
    ) e

group_sound_row : (a : List ℕ) (v : OnGroup) → row_in verbs_on_group a ≡ Some v → OnGroupMeant a v
group_sound_row a v e =
    row_sound OnGroupMeant verbs_on_group a v (
      λ b g s. record { spelled = (refl, (s, tt)); proper = tt; brought = refl },
      (
        λ b g s. record { spelled = (refl, (s, tt)); proper = tt; brought = refl },
        (
          λ b g s. record { spelled = (refl, (s, tt)); proper = tt; brought = refl },
          tt,
        ),
      ),
    ) e

save_sound_row : (a : List ℕ) (v : OnSave) → row_in verbs_on_save a ≡ Some v → OnSaveMeant a v
save_sound_row a v e =
    row_sound OnSaveMeant verbs_on_save a v (
      λ b c g n s r. record { spelled = (refl, (s, (r, tt))); proper = tt; brought = refl },
      (
        λ b c g n s r. record { spelled = (refl, (s, (r, tt))); proper = tt; brought = refl },
        tt,
      ),
    ) e

two_sound : (a b : List ℕ) → IsFoundIn (a ∷ b ∷ []) (two_words a b)
two_sound a b =
    let ws = a ∷ b ∷ [] in
    given_or_sound ws (row_in verbs_on_path a) (λ v. path_line v b) _ (λ v e. given_sound ws (path_in b) (λ p. line.Command (command_on_path v p)) (λ p f. path_sound_row a v e b p (path_sound b p f)))
    (given_or_sound ws (row_in verbs_on_name a) (λ v. name_line v b) _ (λ v e. given_sound ws (name_in b) (λ n. line.Command (command_on_name v n)) (λ n f. name_sound_row a v e b n (name_sound b n f)))
    (given_or_sound ws (row_in verbs_on_group a) (λ v. group_line v b) _ (λ v e. given_sound ws (group_in b) (λ g. line.Command (command_on_group v g)) (λ g f. group_sound_row a v e b g (group_sound b g f)))
    (if_sound ws (bytes_eq a (codes "age")) (age_line b) _
    (λ t. given_sound ws (number_in b) (λ n. line.Command (command.Age n)) (λ n f. record { spelled = (bytes_same a (codes "age") t, (number_sound b n f, tt)); proper = tt; brought = refl }))
    (if_sound ws (bytes_eq a (codes "audit") && bytes_eq b (codes "deep")) (line.Command command.AuditDeep) line.Syntax
    (λ t. let parts = and_parts (bytes_eq a (codes "audit")) (bytes_eq b (codes "deep")) t in record { spelled = (bytes_same a (codes "audit") parts.0, (bytes_same b (codes "deep") parts.1, tt)); proper = tt; brought = refl })
    tt))))

-- the payload of a write and of a patch, whatever its length
opened_write : (ws : List (List ℕ)) (p : List ℕ) (size : ℕ) (payload : List ℕ) → Spells ws (keyword (codes "write") ∷ path p ∷ number size ∷ []) → length payload ≡ size
    → Meant ws payload (opened_command (record { path = p; offset = None; size = size }) payload)
opened_write ws p size payload h e =
    elim (cases_Bool (nat_le size file_limit)) [
      | inl t ↦ subst (Meant ws payload) (sym (cond-true (nat_le size file_limit) _ _ t))
          (record { spelled = subst (λ (n : ℕ). Spells ws (keyword (codes "write") ∷ path p ∷ number n ∷ [])) (sym e) h; proper = subst (λ (n : ℕ). n ≤ file_limit) (sym e) (leb-true size file_limit t); brought = refl })
      | inr f ↦ subst (Meant ws payload) (sym (cond-false (nat_le size file_limit) _ _ f))
          (record { spelled = h; proper = leb-false size file_limit f; brought = e })
    ]

opened_patch : (ws : List (List ℕ)) (p : List ℕ) (offset size : ℕ) (payload : List ℕ) → Spells ws (keyword (codes "patch") ∷ path p ∷ number offset ∷ number size ∷ []) → length payload ≡ size
    → Meant ws payload (opened_command (record { path = p; offset = Some offset; size = size }) payload)
opened_patch ws p offset size payload h e =
    elim (cases_Bool (nat_le size file_limit)) [
      | inl t ↦ subst (Meant ws payload) (sym (cond-true (nat_le size file_limit) _ _ t))
          (record { spelled = subst (λ (n : ℕ). Spells ws (keyword (codes "patch") ∷ path p ∷ number offset ∷ number n ∷ [])) (sym e) h; proper = subst (λ (n : ℕ). n ≤ file_limit) (sym e) (leb-true size file_limit t); brought = refl })
      | inr f ↦ subst (Meant ws payload) (sym (cond-false (nat_le size file_limit) _ _ f))
          (record { spelled = h; proper = leb-false size file_limit f; brought = e })
    ]

three_sound : (a b c : List ℕ) → IsFoundIn (a ∷ b ∷ c ∷ []) (three_words a b c)
three_sound a b c =
    let ws = a ∷ b ∷ c ∷ [] in
    if_sound ws (bytes_eq a (codes "write")) (write_line b c) _
    (λ t. given_sound ws (number_in c) (λ n. given (path_in b) (λ p. line.Payload (record { path = p; offset = None; size = n }))) (λ n f.
    given_sound ws (path_in b) (λ p. line.Payload (record { path = p; offset = None; size = n })) (λ p g payload e.
    opened_write ws p n payload (bytes_same a (codes "write") t, (path_sound b p g, (number_sound c n f, tt))) e)))
    (if_sound ws (bytes_eq a (codes "put") && bytes_eq b (codes "-r")) _ _
    (λ t. let parts = and_parts (bytes_eq a (codes "put")) (bytes_eq b (codes "-r")) t in
    given_sound ws (path_in c) (λ p. line.Command (command.PutRelease p)) (λ p g. record { spelled = (bytes_same a (codes "put") parts.0, (bytes_same b (codes "-r") parts.1, (path_sound c p g, tt))); proper = tt; brought = refl }))
    (if_sound ws (bytes_eq a (codes "move")) (move_line b c) _
    (λ t. given_sound ws (group_in c) (λ g. given (prefix_in b) (λ p. line.Command (command.Move p g None))) (λ g f.
    given_sound ws (prefix_in b) (λ p. line.Command (command.Move p g None)) (λ p r. record { spelled = (bytes_same a (codes "move") t, (prefix_sound b p r, (group_sound c g f, tt))); proper = tt; brought = refl })))
    (given_sound ws (row_in verbs_on_save a) (λ v. save_line v b c) (λ v e.
    given_sound ws (group_in b) (λ g. given (name_in c) (λ n. line.Command (command_on_save v g n))) (λ g f.
    given_sound ws (name_in c) (λ n. line.Command (command_on_save v g n)) (λ n r. save_sound_row a v e b c g n (group_sound b g f) (name_sound c n r)))))))

-- two groups that differ
two_groups_sound : (a b c d : List ℕ) (g h : GroupId) → a ≡ codes "move" → SaysSlot (group g.0) c → SaysSlot (group h.0) d
    → IsFoundIn (a ∷ b ∷ c ∷ d ∷ []) (cond (g.0 == h.0) line.Syntax (given (prefix_in b) (λ p. line.Command (command.Move p g (Some h)))))
two_groups_sound a b c d g h e s r =
    elim (cases_Bool (g.0 == h.0)) [
      | inl t ↦ subst (IsFoundIn (a ∷ b ∷ c ∷ d ∷ [])) (sym (cond-true (g.0 == h.0) _ _ t)) tt
      | inr f ↦ subst (IsFoundIn (a ∷ b ∷ c ∷ d ∷ [])) (sym (cond-false (g.0 == h.0) _ _ f))
          (given_sound (a ∷ b ∷ c ∷ d ∷ []) (prefix_in b) (λ p. line.Command (command.Move p g (Some h))) (λ p q.
          record { spelled = (e, (prefix_sound b p q, (s, (r, tt)))); proper = eqb-false g.0 h.0 f; brought = refl }))
    ]

four_sound : (a b c d : List ℕ) → IsFoundIn (a ∷ b ∷ c ∷ d ∷ []) (four_words a b c d)
four_sound a b c d =
    let ws = a ∷ b ∷ c ∷ d ∷ [] in
    if_sound ws (bytes_eq a (codes "patch")) (patch_line b c d) _
    (λ t. given_sound ws (number_in c) (λ k. given (number_in d) (λ n. given (path_in b) (λ p. line.Payload (record { path = p; offset = Some k; size = n })))) (λ k f.
    given_sound ws (number_in d) (λ n. given (path_in b) (λ p. line.Payload (record { path = p; offset = Some k; size = n }))) (λ n g.
    given_sound ws (path_in b) (λ p. line.Payload (record { path = p; offset = Some k; size = n })) (λ p r payload e.
    opened_patch ws p k n payload (bytes_same a (codes "patch") t, (path_sound b p r, (number_sound c k f, (number_sound d n g, tt)))) e))))
    (if_sound ws (bytes_eq a (codes "restore")) (restore_line b c d) _
    (λ t. given_sound ws (name_in b) (λ n. given (path_in c) (λ p. given (path_in d) (λ q. line.Command (command.Restore n p q)))) (λ n f.
    given_sound ws (path_in c) (λ p. given (path_in d) (λ q. line.Command (command.Restore n p q))) (λ p g.
    given_sound ws (path_in d) (λ q. line.Command (command.Restore n p q)) (λ q r.
    record { spelled = (bytes_same a (codes "restore") t, (name_sound b n f, (path_sound c p g, (path_sound d q r, tt)))); proper = tt; brought = refl }))))
    (if_sound ws (bytes_eq a (codes "move")) (move_two_line b c d) _
    (λ t. given_sound ws (group_in c) (λ g. given (group_in d) (λ h. cond (g.0 == h.0) line.Syntax (given (prefix_in b) (λ p. line.Command (command.Move p g (Some h)))))) (λ g f.
    given_sound ws (group_in d) (λ h. cond (g.0 == h.0) line.Syntax (given (prefix_in b) (λ p. line.Command (command.Move p g (Some h))))) (λ h r.
    two_groups_sound a b c d g h (bytes_same a (codes "move") t) (group_sound c g f) (group_sound d h r))))
    (if_sound ws (bytes_eq a (codes "salvage")) (salvage_line b c d) line.Syntax
    (λ t. given_sound ws (group_in b) (λ g. given (bfid_in d) (λ x. given (name_in c) (λ n. line.Command (command.Salvage g n x)))) (λ g f.
    given_sound ws (bfid_in d) (λ x. given (name_in c) (λ n. line.Command (command.Salvage g n x))) (λ x r.
    given_sound ws (name_in c) (λ n. line.Command (command.Salvage g n x)) (λ n s.
    record { spelled = (bytes_same a (codes "salvage") t, (group_sound b g f, (name_sound c n s, (bfid_sound d x r, tt)))); proper = tt; brought = refl }))))
    tt)))

pub found_sound : (ws : List (List ℕ)) → IsFoundIn ws (found_in ws)
found_sound [] = refl
found_sound (a ∷ []) = one_sound a
found_sound (a ∷ b ∷ []) = two_sound a b
found_sound (a ∷ b ∷ c ∷ []) = three_sound a b c
found_sound (a ∷ b ∷ c ∷ d ∷ []) = four_sound a b c d
found_sound (a ∷ b ∷ c ∷ d ∷ e ∷ ws) = tt
